-- `diftanew::put_script` meets its contract. Assumes nothing.
use mathlib.Core.Path.{◌≡◌, sym, ◌∙◌}
use Prim.Native.Nat.{◌+◌, ◌-◌}
use native.Mathlib.Omega.{arith}
use lib.ListN.{length, set}
use borrow.Author.Rules.{rules}
use Rattle.std.proofs.lemmas.Slice.{put_mid-paste}
use Rattle.diftanew.specs.Numbers.{numbers_of}
use Rattle.diftanew.proofs.put_script.Goals as goal

pub returns : goal.returns
returns c =
    let n : length c.put_run.new.answer ≡ 53 = search rules in
    put_mid-paste (c.args.at + 1) (c.args.at + 54 - (c.args.at + 1)) (set c.args.answer.now c.args.at c.args.p.now.frame) c.copy_from_slice.new.self (numbers_of c.args.p.now.outcome) 53 (c.copy_from_slice.ensures.after ∙ c.put_run.ensures) (omega arith) (rw (← c.put_run.ensures) (sym n))
