-- The cue numbers, row by row. Assumes nothing.
use mathlib.Core.Path.{◌≡◌, refl, sym, ap, subst, ◌∙◌}
use mathlib.Core.List.{List, [], ◌∷◌, ◌++◌, append-nil, append_assoc}
use Prim.Native.Nat.{ℕ, ◌+◌, ◌<◌}
use native.Mathlib.Numerals.{add-one}
use lib.ListN.{length, get_or, take, set}
use lib.Seq.{take-suc}
use Rattle.rules.specs.Blocks.{RowKind, End, view_of}
use Rattle.rules_season.specs.Season.{cue_of, cues_of}
use Rattle.report.specs.Pieces.{Wrote}
use Rattle.report.proofs.PiecesLaws.{wrote_byte}

cues_append : (a b : List RowKind) → cues_of (a ++ b) ≡ cues_of a ++ cues_of b
unfolding cues_of
cues_append [] b = refl
cues_append (k ∷ a) b = ap (λ l. cue_of (view_of k) ++ l) (cues_append a b) ∙ sym (append_assoc (cue_of (view_of k)) (cues_of a) (cues_of b))

-- one row more
pub cues_next : (ks : List RowKind) (j : ℕ) → j < length ks → cues_of (take (j + 1) ks) ≡ cues_of (take j ks) ++ cue_of (view_of (get_or ks j End))
unfolding cues_of
cues_next ks j h =
    ap (λ n. cues_of (take n ks)) (add-one j) ∙ ap cues_of (take-suc ks j End h) ∙ cues_append (take j ks) (get_or ks j End ∷ []) ∙ ap (λ l. cues_of (take j ks) ++ l) (append-nil (cue_of (view_of (get_or ks j End))))

-- what is written with a row's cue, or with none
pub put_none : {w old new c : List ℕ} {at : ℕ} → Wrote w old new at → [] ≡ c → Wrote (w ++ c) old new at
put_none {w} {old} {new} {c} {at} h e = subst (λ l. Wrote l old new at) (sym (append-nil w) ∙ ap (λ l. w ++ l) e) h

pub put_one : {w old new c : List ℕ} {at n : ℕ} → Wrote w old new at → length w < length old → n ∷ [] ≡ c → Wrote (w ++ c) old (set new at n) (at + 1)
put_one {w} {old} {new} {c} {at} {n} h l e = subst (λ z. Wrote (w ++ z) old (set new at n) (at + 1)) e (wrote_byte w old new n at l h)
