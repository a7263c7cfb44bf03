-- Changes 10 and 13: the season sheet, file by file, and its groups.
use mathlib.Core.Path.{◌≡◌, refl, sym, ◌∙◌, ap, subst, fun_ext}
use mathlib.Core.Logic.{◌⊎◌, inl, inr}
use mathlib.Core.Bool.{Bool, true, false, not, cond, ◌||◌, ◌&&◌}
use mathlib.Core.List.Memᴰ
use mathlib.Core.List.{List, [], ◌∷◌, ◌++◌, Memᴰ}
use Prim.Native.Nat.{ℕ, ◌+◌, max}
use native.Mathlib.Omega.{arith}
use lib.Dec.{T, eqb, eqb→eq, eqb_refl}
use lib.ListN.{length}
use Rattle.ints.proofs.Diffs.{cond_true, both}
use Rattle.rules.specs.Text.{equals}
use Rattle.rules.specs.Figures.{ones}
use Rattle.rules.specs.Scripts.{Script, report_ticks}
use Rattle.rules.specs.Report.{script_report}
use Rattle.rules.specs.Calls.{Judged, accepted, refuses}
use Rattle.rules_season.specs.Season.{scripts_of, refusals_of, met, sum_of_ticks, most_ticks, same_group, among, firsts, Sheet, sheet_of, with_accepted, with_refused, SheetGrows, Apart, none_apart, more_apart, GroupsExact, SameGroupIs, GroupsFiner, Equivalence, same_report, cues_of}
use Rattle.rules.proofs.Whole.{case}

-- ---- lists, one more at the end
pub length_end : {A : Type 0} (l : List A) (x : A) → length (l ++ (x ∷ [])) ≡ length l + 1
length_end [] x = refl
length_end (y ∷ l) x = omega (arith, length_end l x)

append_nil : {A : Type 0} (l : List A) → l ++ [] ≡ l
append_nil [] = refl
append_nil (x ∷ l) = ap (λ z. x ∷ z) (append_nil l)

pub append_end : {A : Type 0} (l m : List A) (x : A) → (l ++ (x ∷ [])) ++ m ≡ l ++ (x ∷ m)
append_end [] m x = refl
append_end (y ∷ l) m x = ap (λ z. y ∷ z) (append_end l m x)

-- ---- the parts of a sheet
pub scripts_end : (js : List Judged) (s : Script) → scripts_of (js ++ (accepted s ∷ [])) ≡ scripts_of js ++ (s ∷ [])
unfolding scripts_of
scripts_end [] s = refl
scripts_end (accepted t ∷ js) s = ap (λ z. t ∷ z) (scripts_end js s)
scripts_end (refuses q p ∷ js) s = scripts_end js s

pub scripts_same : (js : List Judged) (q p : ℕ) → scripts_of (js ++ (refuses q p ∷ [])) ≡ scripts_of js
unfolding scripts_of
scripts_same [] q p = refl
scripts_same (accepted t ∷ js) q p = ap (λ z. t ∷ z) (scripts_same js q p)
scripts_same (refuses r o ∷ js) q p = scripts_same js q p

refusals_end : (js : List Judged) (q p : ℕ) → refusals_of (js ++ (refuses q p ∷ [])) ≡ refusals_of js ++ (q ∷ [])
unfolding refusals_of
refusals_end [] q p = refl
refusals_end (accepted t ∷ js) q p = refusals_end js q p
refusals_end (refuses r o ∷ js) q p = ap (λ z. r ∷ z) (refusals_end js q p)

refusals_same : (js : List Judged) (s : Script) → refusals_of (js ++ (accepted s ∷ [])) ≡ refusals_of js
unfolding refusals_of
refusals_same [] s = refl
refusals_same (accepted t ∷ js) s = refusals_same js s
refusals_same (refuses r o ∷ js) s = ap (λ z. r ∷ z) (refusals_same js s)

met_end : (q r : ℕ) (rs : List ℕ) → met q (rs ++ (r ∷ [])) ≡ met q rs + cond (eqb q r) 1 0
unfolding met
met_end q r [] = omega arith
met_end q r (x ∷ rs) = omega (arith, met_end q r rs)

sum_end : (ss : List Script) (s : Script) → sum_of_ticks (ss ++ (s ∷ [])) ≡ sum_of_ticks ss + report_ticks ones s
unfolding sum_of_ticks
sum_end [] s = omega arith
sum_end (t ∷ ss) s = omega (arith, sum_end ss s)

most_end : (ss : List Script) (s : Script) → most_ticks (ss ++ (s ∷ [])) ≡ max (most_ticks ss) (report_ticks ones s)
unfolding most_ticks
most_end [] s = omega arith
most_end (t ∷ ss) s = omega (arith, most_end ss s)

-- one first more, if the last is in none of the groups before it
pub firsts_end : (seen ss : List Script) (s : Script) → firsts seen (ss ++ (s ∷ [])) ≡ firsts seen ss ++ cond (among s (seen ++ ss)) [] (s ∷ [])
unfolding firsts
firsts_end seen [] s = ap (λ l. cond (among s l) [] (s ∷ [])) (sym (append_nil seen))
firsts_end seen (t ∷ ss) s = by (among t seen) (firsts_end (seen ++ (t ∷ [])) ss s ∙ ap (λ l. firsts (seen ++ (t ∷ [])) ss ++ cond (among s l) [] (s ∷ [])) (append_end seen ss t))
  where
    by : (b : Bool) → firsts (seen ++ (t ∷ [])) (ss ++ (s ∷ [])) ≡ firsts (seen ++ (t ∷ [])) ss ++ cond (among s (seen ++ (t ∷ ss))) [] (s ∷ [])
        → cond b (firsts (seen ++ (t ∷ [])) (ss ++ (s ∷ []))) (t ∷ firsts (seen ++ (t ∷ [])) (ss ++ (s ∷ [])))
        ≡ cond b (firsts (seen ++ (t ∷ [])) ss) (t ∷ firsts (seen ++ (t ∷ [])) ss) ++ cond (among s (seen ++ (t ∷ ss))) [] (s ∷ [])
    by true e = e
    by false e = ap (λ l. t ∷ l) e

groups_end : (ss : List Script) (s : Script) → length (firsts [] (ss ++ (s ∷ []))) ≡ length (firsts [] ss) + cond (among s ss) 0 1
groups_end ss s = ap length (firsts_end [] ss s) ∙ by (among s ss)
  where
    by : (b : Bool) → length (firsts [] ss ++ cond b [] (s ∷ [])) ≡ length (firsts [] ss) + cond b 0 1
    by true = ap length (append_nil (firsts [] ss)) ∙ omega arith
    by false = length_end (firsts [] ss) s

same_sheet : (a b : Sheet) → a.accepted ≡ b.accepted → a.refused ≡ b.refused → a.counts ≡ b.counts → a.ticks ≡ b.ticks → a.greatest ≡ b.greatest → a.groups ≡ b.groups → a ≡ b
same_sheet a b e f g h i j = λ n. record { accepted = e n; refused = f n; counts = g n; ticks = h n; greatest = i n; groups = j n }

pub sheet_grows : SheetGrows
unfolding SheetGrows sheet_of with_accepted with_refused
sheet_grows js = (grown, refusing)
  where
    grown : (s : Script) → sheet_of (js ++ (accepted s ∷ [])) ≡ with_accepted (scripts_of js) s (sheet_of js)
    grown s =
        let e = scripts_end js s in
        let f = refusals_same js s in
        same_sheet _ _ (ap length e ∙ length_end (scripts_of js) s) (ap length f) (ap (λ l q. met q l) f)
        (ap sum_of_ticks e ∙ sum_end (scripts_of js) s) (ap most_ticks e ∙ most_end (scripts_of js) s)
        (ap (λ l. length (firsts [] l)) e ∙ groups_end (scripts_of js) s)

    refusing : (q p : ℕ) → sheet_of (js ++ (refuses q p ∷ [])) ≡ with_refused q (sheet_of js)
    refusing q p =
        let e = scripts_same js q p in
        let f = refusals_end js q p in
        same_sheet _ _ (ap length e) (ap length f ∙ length_end (refusals_of js) q) (ap (λ l r. met r l) f ∙ fun_ext (λ r. met_end r q (refusals_of js)))
        (ap sum_of_ticks e) (ap most_ticks e) (ap (λ l. length (firsts [] l)) e)

-- ---- texts that are equal
pub equals_yes : (a b : List ℕ) → T (equals a b) → a ≡ b
unfolding equals
equals_yes [] [] h = refl
equals_yes [] (y ∷ b) h = absurd h
equals_yes (x ∷ a) [] h = absurd h
equals_yes (x ∷ a) (y ∷ b) h = by (eqb y x) (eqb→eq y x) h (equals_yes a b)
  where
    by : (c : Bool) → (T c → y ≡ x) → T (cond c (equals a b) false) → (T (equals a b) → a ≡ b) → x ∷ a ≡ y ∷ b
    by true f h ih = let e = f tt in let r = ih h in λ i. sym e i ∷ r i
    by false f h ih = absurd h

pub equals_refl : (a : List ℕ) → T (equals a a)
unfolding equals
equals_refl [] = tt
equals_refl (x ∷ a) = subst T (sym (cond_true (eqb x x) (equals a a) false (eqb_refl x))) (equals_refl a)

-- ---- one group: equal reports and cue numbers, an equivalence
and_yes : (a b : Bool) → T a → T b → T (a && b)
and_yes true b h k = k
and_yes false b h k = absurd h

pub same_group_is : SameGroupIs
unfolding SameGroupIs same_group same_report
same_group_is a b = (
  λ h. let (r, c) = both (same_report a b) _ h in (equals_yes _ _ r, equals_yes _ _ c),
  λ (r, c). and_yes (same_report a b) _ (subst (λ t. T (equals (script_report ones a) t)) r (equals_refl (script_report ones a))) (subst (λ t. T (equals (cues_of a.rows) t)) c (equals_refl (cues_of a.rows))),
)

pub groups_finer : GroupsFiner
unfolding GroupsFiner same_group
groups_finer a b h = (both (same_report a b) _ h).0

pub one_group : Equivalence same_group
unfolding SameGroupIs
one_group = record {
  reflexive = λ a. (same_group_is a a).1 (refl, refl);
  symmetric = λ a b h. let (r, c) = (same_group_is a b).0 h in (same_group_is b a).1 (sym r, sym c);
  transitive = λ a b c h k. let (r, u) = (same_group_is a b).0 h in let (s, v) = (same_group_is b c).0 k in (same_group_is a c).1 (r ∙ s, u ∙ v);
}

-- ---- the groups are exact
or_cases : (a b : Bool) → T (a || b) → T a ⊎ T b
or_cases true b h = inl tt
or_cases false b h = inr h

or_left : (a b : Bool) → T a → T (a || b)
or_left true b h = tt
or_left false b h = absurd h

or_right : (a b : Bool) → T b → T (a || b)
or_right true b h = tt
or_right false b h = h

among_of : (s : Script) (ts : List Script) → T (among s ts) → (t : Script) × Memᴰ t ts × T (same_group t s)
unfolding among
among_of s [] h = absurd h
among_of s (t ∷ ts) h = case (or_cases (same_group t s) (among s ts) h) (λ k. (t, Memᴰ.head refl, k)) (λ k. let (u, m, g) = among_of s ts k in (u, Memᴰ.tail m, g))

among_in : (s t : Script) (ts : List Script) → Memᴰ t ts → T (same_group t s) → T (among s ts)
unfolding among
among_in s t [] m g = absurd (Memᴰ.not-nil m)
among_in s t (u ∷ ts) m g =
    case (Memᴰ.cases_cons m) (λ e. or_left (same_group u s) (among s ts) (subst (λ z. T (same_group z s)) e g)) (λ n. or_right (same_group u s) (among s ts) (among_in s t ts n g))

among_end : (s t : Script) (ts : List Script) → T (among s (ts ++ (t ∷ []))) → T (among s ts) ⊎ T (same_group t s)
unfolding among
among_end s t [] h = case (or_cases (same_group t s) false h) inr (λ k. absurd k)
among_end s t (u ∷ ts) h =
    case (or_cases (same_group u s) (among s (ts ++ (t ∷ []))) h) (λ k. inl (or_left (same_group u s) (among s ts) k))
    (λ k. case (among_end s t ts k) (λ l. inl (or_right (same_group u s) (among s ts) l)) inr)

among_more : (s t : Script) (ts : List Script) → T (among s ts) ⊎ T (same_group t s) → T (among s (ts ++ (t ∷ [])))
unfolding among
among_more s t [] (inl h) = absurd h
among_more s t [] (inr h) = or_left (same_group t s) false h
among_more s t (u ∷ ts) (inl h) = case (or_cases (same_group u s) (among s ts) h) (or_left (same_group u s) (among s (ts ++ (t ∷ [])))) (λ k. or_right (same_group u s) (among s (ts ++ (t ∷ []))) (among_more s t ts (inl k)))
among_more s t (u ∷ ts) (inr h) = or_right (same_group u s) (among s (ts ++ (t ∷ []))) (among_more s t ts (inr h))

-- a first is in no group before it
first_new : (seen ss : List Script) (t : Script) → Memᴰ t (firsts seen ss) → T (among t seen) → ⊥
unfolding firsts
first_new seen [] t m h = Memᴰ.not-nil m
first_new seen (s ∷ ss) t m h = by (among s seen) (λ n. first_new (seen ++ (s ∷ [])) ss t n (among_more t s seen (inl h))) (λ k. k) m
  where
    by : (b : Bool) → (Memᴰ t (firsts (seen ++ (s ∷ [])) ss) → ⊥) → (T (among s seen) → T b) → Memᴰ t (cond b (firsts (seen ++ (s ∷ [])) ss) (s ∷ firsts (seen ++ (s ∷ [])) ss)) → ⊥
    by true f g m = f m
    by false f g m = case (Memᴰ.cases_cons m) (λ e. g (subst (λ z. T (among z seen)) e h)) f

firsts_apart : (seen ss : List Script) → Apart (firsts seen ss)
unfolding firsts
firsts_apart seen [] = none_apart
firsts_apart seen (s ∷ ss) = by (among s seen) (firsts_apart (seen ++ (s ∷ [])) ss)
  where
    rest : List Script
    rest = firsts (seen ++ (s ∷ [])) ss

    other : (t : Script) → Memᴰ t rest → (b : Bool) → (T b → T (same_group s t)) → T (not b)
    other t m true f = absurd (first_new (seen ++ (s ∷ [])) ss t m (among_more t s seen (inr (f tt))))
    other t m false f = tt

    by : (b : Bool) → Apart rest → Apart (cond b rest (s ∷ rest))
    by true h = h
    by false h = more_apart (λ t m. other t m (same_group s t) (λ k. k)) h

-- each file is in a group before, or in that of a first
firsts_all : (seen ss : List Script) (x : Script) → Memᴰ x ss → T (among x seen) ⊎ ((t : Script) × Memᴰ t (firsts seen ss) × T (same_group t x))
unfolding firsts
firsts_all seen [] x m = absurd (Memᴰ.not-nil m)
firsts_all seen (s ∷ ss) x m = by (among s seen) (λ k. k) (case (Memᴰ.cases_cons m) inl (λ n. inr (firsts_all (seen ++ (s ∷ [])) ss x n)))
  where
    rest : List Script
    rest = firsts (seen ++ (s ∷ [])) ss

    Found : List Script → Type 0
    Found l = (t : Script) × Memᴰ t l × T (same_group t x)

    -- s is in a group before, and so is what is in one with s
    before : T (among s seen) → T (same_group s x) → T (among x seen)
    before h g = let (t, m, k) = among_of s seen h in among_in x t seen m (one_group.transitive t s x k g)

    by : (b : Bool) → (T b → T (among s seen)) → (x ≡ s) ⊎ (T (among x (seen ++ (s ∷ []))) ⊎ Found rest) → T (among x seen) ⊎ Found (cond b rest (s ∷ rest))
    by true f (inl e) = inl (subst (λ z. T (among z seen)) (sym e) (f tt))
    by true f (inr (inl h)) = case (among_end x s seen h) inl (λ g. inl (before (f tt) g))
    by true f (inr (inr w)) = inr w
    by false f (inl e) = inr (s, Memᴰ.head refl, subst (λ z. T (same_group s z)) (sym e) (one_group.reflexive s))
    by false f (inr (inl h)) = case (among_end x s seen h) inl (λ g. inr (s, Memᴰ.head refl, g))
    by false f (inr (inr (t, m, g))) = inr (t, Memᴰ.tail m, g)

-- each first is one of the files
firsts_in : (seen ss : List Script) (t : Script) → Memᴰ t (firsts seen ss) → Memᴰ t ss
unfolding firsts
firsts_in seen [] t m = m
firsts_in seen (s ∷ ss) t m = by (among s seen) (firsts_in (seen ++ (s ∷ [])) ss t) m
  where
    rest : List Script
    rest = firsts (seen ++ (s ∷ [])) ss

    by : (b : Bool) → (Memᴰ t rest → Memᴰ t ss) → Memᴰ t (cond b rest (s ∷ rest)) → Memᴰ t (s ∷ ss)
    by true f m = Memᴰ.tail (f m)
    by false f m = case (Memᴰ.cases_cons m) Memᴰ.head (λ n. Memᴰ.tail (f n))

pub groups_exact : GroupsExact
unfolding GroupsExact among
groups_exact ss = (firsts_apart [] ss, λ s m. case (firsts_all [] ss s m) (λ h. absurd h) (λ w. w), firsts_in [] ss)

-- ---- the firsts stand for all
same_bool : (a b : Bool) → (T a → T b) → (T b → T a) → a ≡ b
same_bool true true f g = refl
same_bool true false f g = absurd (f tt)
same_bool false true f g = absurd (g tt)
same_bool false false f g = refl

-- a file is in a group of these exactly if it is in that of one of their firsts
pub among_firsts : (s : Script) (ss : List Script) → among s (firsts [] ss) ≡ among s ss
unfolding GroupsExact
among_firsts s ss = same_bool (among s (firsts [] ss)) (among s ss)
    (λ h. let (t, m, g) = among_of s (firsts [] ss) h in among_in s t ss (firsts_in [] ss t m) g)
    (λ h. let (x, m, g) = among_of s ss h in let (t, n, k) = (groups_exact ss).1 x m in among_in s t (firsts [] ss) n (one_group.transitive t x s k g))
