-- `diftanew::put_line` meets its contract. Assumes nothing.
use Prim.Native.Nat.{◌+◌, ◌-◌}
use native.Mathlib.Omega.{arith}
use borrow.Author.Rules.{rules}
use Rattle.std.proofs.lemmas.Slice.{put_mid-paste}
use Rattle.diftanew.proofs.put_line.Goals as goal

pub returns : goal.returns
returns c = put_mid-paste c.args.at (c.args.at + 7 - c.args.at) c.args.answer.now c.copy_from_slice.new.self c.args.told 7 c.copy_from_slice.ensures.after (omega arith) (search rules)
