-- `live_state::write_state` meets its contract. Assumes nothing.
use mathlib.Core.Path.{◌≡◌, refl, sym, ◌∙◌, ap}
use mathlib.Core.List.{List, ◌++◌}
use Prim.Native.Nat.{ℕ, ◌≤◌}
use lib.ListN.{length, take, replicate}
use borrow.Author.Rules.{rules}
use native.Mathlib.Omega.{arith}
use Rattle.live_state.specs.Numbers.{head_numbers}
use Rattle.live_state.proofs.Writing.{Writing, writes_none, writes_more, writes_all}
use Rattle.live_state.proofs.write_state.Goals as goal

-- the first 16 numbers
front : (state : List ℕ) (first : List ℕ) → state ≡ first ++ replicate 48 0 → take 16 (first ++ replicate 48 0) ≡ first → take 16 state ≡ first
front state first e f = ap (take 16) e ∙ f

pub put_head-requires : goal.put_head-requires
put_head-requires c = c.clear.ensures

pub loop-k-init : goal.loop-k-init
loop-k-init c =
    let p = c.put_head in
    let f = front _ (head_numbers c.args.standing c.args.total) p.ensures refl in
    record { front = ap length f; written = writes_none _ _ _ _ _ (p.ensures ∙ ap (λ z. z ++ replicate 48 0) (sym f)) (ap length p.ensures) }

pub put_loop-requires : goal.put_loop-requires
put_loop-requires c = let l = c.loop-k in omega (arith, l.invariant.written.long, c.loop-k-test.true, c.requires.1)

pub loop-k-preserved : goal.loop-k-preserved
loop-k-preserved c =
    let l = c.loop-k in
    record { front = l.invariant.front; written = writes_more _ _ _ _ l.k l.state l.invariant.written l.invariant.front c.requires.1 c.requires.2 c.requires.3 c.loop-k-test.true _ c.line_at.ensures _ refl _ c.turns_of.ensures _ c.put_loop.ensures (search rules) }

pub returns : goal.returns
returns c hs r g =
    let l = c.loop-k in
    let f = front _ (head_numbers c.args.standing c.args.total) c.put_head.ensures refl in
    writes_all _ _ _ _ l.k l.state l.invariant.written l.invariant.front c.requires.1 c.requires.2 c.requires.3 _ f (omega (arith, c.loop-k-test.false)) l.auto.k-end hs r g
