-- A bank that may have been refused. Assumes nothing.
use Rattle.std.specs.Prelude.{Some, None, Option}
use Rattle.fddevs.specs.Machine.{Family, idle_family}

-- made against its vetting, a bank is the idle bank
abbrev pub or_idle : {B : Type 0} → (B → Family) → Option B → Family
or_idle family (Some b) = family b
or_idle family None = idle_family
