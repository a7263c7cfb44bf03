-- `live_state::put_loop` meets its contract. Assumes nothing.
use Rattle.live_state.proofs.Writing.{three_put}
use Rattle.live_state.proofs.put_loop.Goals as goal

pub returns : goal.returns
returns c xs n l e = rw (c.min-2.ensures, c.min-most.ensures, c.min.ensures, c.min-all.ensures) (three_put c.args.j c.args.state.now _ _ _ xs n l e)
