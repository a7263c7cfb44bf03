-- What a row's kind says of a loop's test.
use mathlib.Core.Path.{◌≡◌, refl, sym}
use mathlib.Core.Bool.{true, false, false≢true}
use mathlib.Core.List.{List}
use Prim.Native.Nat.{ℕ}
use lib.IntN.{pos}
use Rattle.ints.proofs.Parts.{ints, neg_parts}
use Rattle.rules.specs.declared.Change.{Change}
use Rattle.rules.specs.declared.Comparison.{Comparison}
use Rattle.rules.specs.declared.Operand.{Operand}
use Rattle.rules.specs.declared.Kind.{Kind}
use Rattle.rules.specs.declared.Kind.TheVariants.{Set, Move, Cue, Pick, Else, End, While, Do, For, Off, Hold}
use Rattle.rules.specs.Blocks.{view_of, kind_of, with_last, Block, Form, while, do_while, hold, for}
use Rattle.rules_steps.specs.Ends.{Near}
use Rattle.rules.specs.Ranges.{is_hold}
use Rattle.analysis_loops.specs.Heads.{is_for}
use Rattle.analysis_steps.specs.Tree.{no_loop, head_of, form_of, test_of}

-- what is not read of a row that is no loop
pub zero_near : Near 1 (pos 0)
zero_near = omega (ints, neg_parts (pos 1_000_000_000))

pub no_test : (text : List ℕ) (k : Kind) → ((v : ℕ) (c : Comparison) (x : Operand) → k ≡ While v c x → ⊥) → ((v : ℕ) (c : Comparison) (x : Operand) → k ≡ Do v c x → ⊥)
    → ((v : ℕ) (s : Operand) (c : Comparison) (x : Operand) (d : Change) → k ≡ For v s c x d → ⊥) → ((v : ℕ) → k ≡ Hold v → ⊥) → test_of text k ≡ no_loop.test
unfolding head_of view_of kind_of
no_test text End p q r s = refl
no_test text Else p q r s = refl
no_test text Pick p q r s = refl
no_test text (Set v x) p q r s = refl
no_test text (Move v c) p q r s = refl
no_test text (Cue n) p q r s = refl
no_test text (While v c x) p q r s = absurd (p v c x refl)
no_test text (Do v c x) p q r s = absurd (q v c x refl)
no_test text (For v y c x d) p q r s = absurd (r v y c x d refl)
no_test text (Off v w c k) p q r s = refl
no_test text (Hold v) p q r s = absurd (s v refl)

-- a body without a step row
pub no_last : (text : List ℕ) (k : Kind) → is_for (form_of text k) ≡ false → (i : ℕ) (b : Block) → with_last (head_of text k).last i b ≡ b
unfolding head_of view_of kind_of with_last
no_last text End h i b = refl
no_last text Else h i b = refl
no_last text Pick h i b = refl
no_last text (Set v x) h i b = refl
no_last text (Move v c) h i b = refl
no_last text (Cue n) h i b = refl
no_last text (While v c x) h i b = refl
no_last text (Do v c x) h i b = refl
no_last text (Off v w c k) h i b = refl
no_last text (Hold v) h i b = refl
no_last text (For v s c x d) h i b = absurd (false≢true (sym h))

-- a hold is no for
pub held_last : (text : List ℕ) (k : Kind) → is_hold (form_of text k) ≡ true → (i : ℕ) (b : Block) → with_last (head_of text k).last i b ≡ b
held_last text k h i b = no_last text k (by (form_of text k) h) i b
  where
    by : (f : Form) → is_hold f ≡ true → is_for f ≡ false
    by while h = refl
    by do_while h = refl
    by hold h = refl
    by (for x) h = sym h
