use Rattle.std.proofs.Common.{vec_items, arith}
use Rattle.timers.specs.Settings.{times_read}
use Rattle.timers.proofs.timer_bank.TimersBank.lifespan.Goals as goal

pub overflow_cast-result : goal.overflow_cast-result
overflow_cast-result c =
    let x = c.args.self.now in
    let t = times_read (vec_items x.settings) x.vetted c.from.result c.index-setting.result.now
    (omega (arith, c.part_count.ensures)) c.index-setting.ensures in
    omega arith

pub overflow_cast-result-in-3 : goal.overflow_cast-result-in-3
overflow_cast-result-in-3 c =
    let x = c.args.self.now in
    let t = times_read (vec_items x.settings) x.vetted c.from.result c.index-setting.result.now
    (omega (arith, c.part_count.ensures)) c.index-setting.ensures in
    omega arith
