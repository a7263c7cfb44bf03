-- One file more on the sheet. Assumes nothing.
use mathlib.Core.Path.{◌≡◌, refl, sym, ap, subst, ◌∙◌}
use mathlib.Core.Bool.{Bool, true, false, not, cond}
use mathlib.Core.List.{List, [], ◌∷◌, ◌++◌}
use Prim.Native.Nat.{ℕ, ◌+◌, ◌≤◌, ◌<◌, max}
use native.Mathlib.Omega.{arith}
use lib.Dec.{eqb}
use lib.ListN.{length, get_or, set, length-set}
use lib.Seq.{get_or-set_same, get_or-set_other}
use borrow.Author.Tests.{ne_eqb, eqb-true, eqb-false}
use Rattle.rules.specs.Figures.{ones}
use Rattle.rules.specs.Scripts.{Script, report_ticks}
use Rattle.rules.specs.Calls.{Judged, accepted, refuses}
use Rattle.rules_season.specs.Season as season
use Rattle.rules_season.specs.Season.{scripts_of, refusals_of, met, sum_of_ticks, most_ticks, among, firsts, sheet_of, with_accepted, with_refused, SheetGrows}
use Rattle.rules_season.proofs.GroupsExact.{sheet_grows}
use Rattle.season_sheet.specs.declared.sheet.Sheet.{Sheet}
use Rattle.season_sheet.specs.Figures.{SheetIs, Accepting, CounterRaised, Refusing}

-- no file
pub no_file : {s : Sheet} {counts : List ℕ} → s.accepted ≡ 0 → s.refused ≡ 0 → ((q : ℕ) → q < 21 → get_or counts q 0 ≡ 0) → s.ticks ≡ 0 → s.greatest ≡ 0 → s.groups ≡ 0 → SheetIs [] s counts
unfolding sheet_of scripts_of refusals_of met sum_of_ticks most_ticks firsts
no_file a r n t g c = record { accepts = a; refusals = r; numbers = n; sum = t; most = g; classes = c }

-- an accepted one
module _ (old new : Sheet) (ticks : ℕ) (fresh : Bool) (a : new.accepted ≡ old.accepted + 1) (r : new.refused ≡ old.refused) (t : new.ticks ≡ old.ticks + ticks)
    (m : new.greatest ≡ max old.greatest ticks) (g : new.groups ≡ old.groups + cond fresh 1 0) where
  one_accepted : (js : List Judged) (s : Script) (counts : List ℕ) → SheetIs js old counts → ticks ≡ report_ticks ones s → fresh ≡ not (among s (scripts_of js)) → SheetIs (js ++ (accepted s ∷ [])) new counts
  unfolding SheetGrows with_accepted
  one_accepted js s counts h e f =
      let grown : with_accepted (scripts_of js) s (sheet_of js) ≡ sheet_of (js ++ (accepted s ∷ [])) = sym ((sheet_grows js).0 s) in
      record {
        accepts = a ∙ ap (λ n. n + 1) h.accepts ∙ ap (λ (x : season.Sheet). x.accepted) grown;
        refusals = r ∙ h.refusals ∙ ap (λ (x : season.Sheet). x.refused) grown;
        numbers = λ q l. h.numbers q l ∙ ap (λ (x : season.Sheet). x.counts q) grown;
        sum = t ∙ (λ i. h.sum i + e i) ∙ ap (λ (x : season.Sheet). x.ticks) grown;
        most = m ∙ (λ i. max (h.most i) (e i)) ∙ ap (λ (x : season.Sheet). x.greatest) grown;
        classes = g ∙ (λ i. h.classes i + cond (f i) 1 0) ∙ ap (λ n. (sheet_of js).groups + n) (by (among s (scripts_of js))) ∙ ap (λ (x : season.Sheet). x.groups) grown;
      }
    where
      by : (b : Bool) → ◌≡◌ {A = ℕ} (cond (not b) 1 0) (cond b 0 1)
      by true = refl
      by false = refl

  pub accepting : (len count : ℕ) → new.used ≡ old.used + cond fresh len 0 → new.cued ≡ old.cued + cond fresh count 0 → Accepting old ticks len count fresh new
  accepting len count u v = record { sheet = one_accepted; accepts = a; refusals = r; sum = t; classes = g; bytes = u; cues = v }

-- a refused one: its counter is one more, or it has none
one_more_lem : (q : ℕ) (counts : List ℕ) → q < length counts → (k : ℕ) → get_or (set counts q (get_or counts q 0 + 1)) k 0 ≡ get_or counts k 0 + cond (eqb k q) 1 0
one_more_lem q counts l k = by (eqb k q) refl
  where
    by : (b : Bool) → eqb k q ≡ b → get_or (set counts q (get_or counts q 0 + 1)) k 0 ≡ get_or counts k 0 + cond b 1 0
    by true e = let f = eqb-true k q e in subst (λ z. get_or (set counts q (get_or counts q 0 + 1)) z 0 ≡ get_or counts z 0 + 1) (sym f) (get_or-set_same counts q (get_or counts q 0 + 1) 0 l)
    by false e = get_or-set_other counts q k (get_or counts q 0 + 1) 0 (eqb-false k q e) ∙ omega arith

pub counted : (q : ℕ) (counts : List ℕ) → length counts ≡ 21 → q < 21 → CounterRaised q counts (set counts q (get_or counts q 0 + 1))
counted q counts e l = record { long = length-set counts q _ ∙ e; numbers = λ k m. one_more_lem q counts (omega arith) k }

pub not_counted : (q : ℕ) (counts : List ℕ) → length counts ≡ 21 → 21 ≤ q → CounterRaised q counts counts
not_counted q counts e l = record { long = e; numbers = λ k m. let f : eqb k q ≡ false = ne_eqb k q (λ g. omega (arith, g)) in rw f (omega arith) }

module _ (old new : Sheet) (q : ℕ) (counts counts' : List ℕ) (a : new.accepted ≡ old.accepted) (r : new.refused ≡ old.refused + 1) (t : new.ticks ≡ old.ticks)
    (m : new.greatest ≡ old.greatest) (g : new.groups ≡ old.groups) (u : new.used ≡ old.used) (v : new.cued ≡ old.cued) (n : CounterRaised q counts counts') where
  one_refused : (js : List Judged) (p : ℕ) → SheetIs js old counts → SheetIs (js ++ (refuses q p ∷ [])) new counts'
  unfolding SheetGrows with_refused
  one_refused js p h =
      let grown : with_refused q (sheet_of js) ≡ sheet_of (js ++ (refuses q p ∷ [])) = sym ((sheet_grows js).1 q p) in
      record {
        accepts = a ∙ h.accepts ∙ ap (λ (x : season.Sheet). x.accepted) grown;
        refusals = r ∙ ap (λ n. n + 1) h.refusals ∙ ap (λ (x : season.Sheet). x.refused) grown;
        numbers = λ k l. n.numbers k l ∙ ap (λ x. x + cond (eqb k q) 1 0) (h.numbers k l) ∙ ap (λ (x : season.Sheet). x.counts k) grown;
        sum = t ∙ h.sum ∙ ap (λ (x : season.Sheet). x.ticks) grown;
        most = m ∙ h.most ∙ ap (λ (x : season.Sheet). x.greatest) grown;
        classes = g ∙ h.classes ∙ ap (λ (x : season.Sheet). x.groups) grown;
      }

  pub refusing : Refusing old q counts counts' new
  refusing = record { sheet = one_refused; accepts = a; refusals = r; sum = t; classes = g; bytes = u; cues = v; long = n.long; each = λ k l. by k (eqb k q) (n.numbers k l) }
    where
      by : (k : ℕ) (b : Bool) → get_or counts' k 0 ≡ get_or counts k 0 + cond b 1 0 → get_or counts' k 0 ≤ get_or counts k 0 + 1
      by k true e = omega arith
      by k false e = omega arith
