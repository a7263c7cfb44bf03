-- The figures of a file, as the numbers of a call. Assumes nothing.
use mathlib.Core.Path.{◌≡◌, refl, sym, ◌∙◌, ap}
use mathlib.Core.List.{List, [], ◌∷◌, map}
use Prim.Native.Nat.{ℕ, zero, suc, ◌≤◌, ◌<◌}
use native.Mathlib.Omega.{arith}
use lib.ListN.{length, get_or, take, length-map, length-take}
use lib.Seq.{get_or-take}
use Rattle.rules.specs.Calls.{Judged, accepted, refuses}
use Rattle.rules.specs.Figures.{Line}
use Rattle.rules.specs.Scripts.{report_lines}
use Rattle.calls.specs.declared.figures.Figures.{Figures}
use Rattle.calls.specs.Figures.{line_numbers, FiguresAs}
use Rattle.std.specs.Prelude.{Ok, Err}
use Rattle.rules.specs.declared.Refusal.{Refusal}
use Rattle.diftanew.specs.Numbers.{Sevens, in_a_row, filled, refused_numbers, Figured-in-numbers}

each_seven : (ls : List Line) (k : ℕ) → k < length ls → length (get_or (map line_numbers ls) k []) ≡ 7
each_seven [] k h = absurd (omega arith)
each_seven (l ∷ ls) zero h = refl
each_seven (l ∷ ls) (suc k) h = each_seven ls k (omega arith)

module _ (prices : List ℕ) (new : List (List ℕ)) (f : Figures) where
  pub few : (j : Judged) → FiguresAs prices j new (Ok f) → f.loops ≤ 16
  few (accepted script) (_, _, n, t, e) = omega (arith, length-take f.loops new, ap length t, length-map (report_lines script) line_numbers)
  few (refuses q p) h = absurd h

  pub sevens : (j : Judged) → FiguresAs prices j new (Ok f) → Sevens f.loops new
  sevens (accepted script) (_, _, n, t, _) k h =
      ap length (sym (get_or-take f.loops new k [] h) ∙ ap (λ (z : List (List ℕ)). get_or z k []) t) ∙ each_seven (report_lines script) k (omega arith)
  sevens (refuses q p) h k l = absurd h

  -- the answer's numbers
  pub figured : (j : Judged) → FiguresAs prices j new (Ok f) → {answer : List ℕ} → answer ≡ filled 115 (f.ticks ∷ f.vars ∷ f.loops ∷ in_a_row (take f.loops new)) → Figured-in-numbers prices j 0 answer
  figured (accepted script) (t, w, n, ls, _) a = record { number = refl; numbers = a ∙ (λ i. filled 115 (t i ∷ w i ∷ n i ∷ in_a_row (ls i))) }
  figured (refuses q p) h a = absurd h

-- a refusal's
pub figured_no : (prices : List ℕ) (new : List (List ℕ)) (r : Refusal) (j : Judged) → FiguresAs prices j new (Err r) → {n : ℕ} {answer : List ℕ} → n ≡ r.number → answer ≡ refused_numbers 115 r.place → Figured-in-numbers prices j n answer
figured_no prices new r (accepted script) h n a = absurd h
figured_no prices new r (refuses q p) (x, y) n a = record { number = n ∙ x; numbers = a ∙ ap (refused_numbers 115) y }
