-- All arrives, then every point of the tick is worked.
use Rattle.array.proofs.TickLaws.{tick_whole}
use Rattle.array.proofs.tick.one_tick.Goals as goal

pub returns : goal.returns
returns c = tick_whole (c.work.ensures c.args.places.now c.arrive.ensures)
