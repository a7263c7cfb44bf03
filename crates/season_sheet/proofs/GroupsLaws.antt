-- Texts kept one after the other, and the groups whose firsts they are. Assumes nothing.
use mathlib.Core.Path.{◌≡◌, refl, sym, ap, subst, ◌∙◌}
use mathlib.Core.Bool.{Bool, true, false, cond, ◌||◌}
use mathlib.Core.List.{List, [], ◌∷◌, ◌++◌, map, append-nil}
use Prim.Native.Nat.{ℕ, zero, suc, ◌+◌, ◌-◌, ◌≤◌, ◌<◌}
use native.Mathlib.Nat.{mul-suc}
use native.Mathlib.Numerals.{add-one}
use native.Mathlib.Omega.{arith}
use lib.Dec.{eqb}
use borrow.Author.Tests.{eq-eqb, ne_eqb}
use lib.ListN.{drop_of_length-le, length, get_or, take, drop, set, length-append}
use lib.Seq.{take-nil, drop-drop, take-take, take-suc-set, drop-cons}
use Rattle.rules.specs.Figures.{ones}
use Rattle.rules.specs.Scripts.{Script}
use Rattle.rules.specs.Report.{script_report, longest_report}
use Rattle.rules.specs.Text.{equals}
use Rattle.rules_season.specs.Season.{cues_of, same_group, among, firsts}
use Rattle.rules_season.proofs.GroupsExact.{firsts_end, among_firsts}
use Rattle.season_sheet.specs.declared.groups.Kept.{Kept}
use Rattle.season_sheet.specs.Firsts.{total, cut_by, script_cues, Parts, Firsts, more}

pub total_end : (ns : List ℕ) (n : ℕ) → total (ns ++ (n ∷ [])) ≡ total ns + n
unfolding total
total_end [] n = omega arith
total_end (m ∷ ns) n = omega (arith, total_end ns n)

-- one part more
pub parts_end : (ns : List ℕ) (n : ℕ) (text : List ℕ) → cut_by (ns ++ (n ∷ [])) text ≡ cut_by ns text ++ (take n (drop (total ns) text) ∷ [])
unfolding cut_by total
parts_end [] n text = refl
parts_end (m ∷ ns) n text = ap (λ l. take m text ∷ l) (parts_end ns n (drop m text) ∙ ap (λ l. cut_by ns (drop m text) ++ (take n l ∷ [])) (drop-drop (total ns) m text))

-- the parts do not read past their sum
drop_take : (n k : ℕ) (l : List ℕ) → drop n (take k l) ≡ take (k - n) (drop n l)
drop_take zero k l = let e : k ≡ k - 0 = omega arith in ap (λ z. take z l) e
drop_take (suc n) zero l = let e : 0 ≡ 0 - suc n = omega arith in ap (λ z. take z (drop (suc n) l)) e
drop_take (suc n) (suc k) [] = sym (take-nil (suc k - suc n))
drop_take (suc n) (suc k) (x ∷ l) = let e : k - n ≡ suc k - suc n = omega arith in drop_take n k l ∙ ap (λ z. take z (drop n l)) e

pub parts_front : (ns : List ℕ) (a b : List ℕ) (k : ℕ) → total ns ≤ k → take k a ≡ take k b → cut_by ns a ≡ cut_by ns b
unfolding cut_by total
parts_front [] a b k h e = refl
parts_front (n ∷ ns) a b k h e =
    let front = sym (take-take n k a (omega arith)) ∙ ap (take n) e ∙ take-take n k b (omega arith) in
    let rest = parts_front ns (drop n a) (drop n b) (k - n) (omega arith) (sym (drop_take n k a) ∙ ap (drop n) e ∙ drop_take n k b) in
    λ i. front i ∷ rest i

-- ---- one accepted file more
map_end : (f : Script → List ℕ) (ss : List Script) (s : Script) → map f (ss ++ (s ∷ [])) ≡ map f ss ++ (f s ∷ [])
map_end f [] s = refl
map_end f (t ∷ ss) s = ap (λ l. f t ∷ l) (map_end f ss s)

-- a part more, behind those kept
part_more : (most groups used len : ℕ) (lengths text part : List ℕ) (parts : List (List ℕ)) → Parts most groups used lengths text parts → groups < length lengths → take len (drop used text) ≡ part → len ≤ most
    → Parts most (groups + 1) (used + len) (set lengths groups len) text (parts ++ (part ∷ []))
part_more most groups used len lengths text part parts h l f m =
    let next : take (groups + 1) (set lengths groups len) ≡ take groups lengths ++ (len ∷ []) = ap (λ n. take n (set lengths groups len)) (add-one groups) ∙ take-suc-set lengths groups len l in
    record {
      each =
          ap (λ ns. cut_by ns text) next ∙ parts_end (take groups lengths) len text ∙ ap (λ u. cut_by (take groups lengths) text ++ (take len (drop u text) ∷ [])) h.sum
          ∙ (λ i. h.each i ++ (f i ∷ []));
      sum = ap total next ∙ total_end (take groups lengths) len ∙ ap (λ u. u + len) h.sum;
      room = rw (add-one, mul-suc) (omega (arith, h.room));
    }

-- the parts do not read what is behind them
pub parts_moved : {most groups used : ℕ} {lengths : List ℕ} {parts : List (List ℕ)} (a b : List ℕ) → Parts most groups used lengths a parts → take used a ≡ take used b → Parts most groups used lengths b parts
parts_moved {groups = groups} {used} {lengths} a b h e = record {
  each = parts_front (take groups lengths) b a used (omega (arith, h.sum)) (sym e) ∙ h.each;
  sum = h.sum;
  room = h.room;
}

-- parts by other names
parts_same : {most groups used groups' used' : ℕ} {lengths text : List ℕ} {parts parts' : List (List ℕ)} → groups ≡ groups' → used ≡ used' → parts ≡ parts' → Parts most groups used lengths text parts → Parts most groups' used' lengths text parts'
parts_same {most = most} {lengths = lengths} {text} e f g h = subst (λ z. z) (λ i. Parts most (e i) (f i) lengths text (g i)) h

module _ (ss : List Script) (s : Script) (k : Kept) (lengths reports counts cues : List ℕ) (h : Firsts ss k lengths reports counts cues) where
  -- in a group that is there
  pub known_yes : among s ss ≡ true → (len count : ℕ) → Firsts (ss ++ (s ∷ [])) (more false k len count) lengths reports counts cues
  known_yes e len count =
      let same : firsts [] ss ≡ firsts [] (ss ++ (s ∷ [])) = sym (firsts_end [] ss s ∙ ap (λ b. firsts [] ss ++ cond b [] (s ∷ [])) e ∙ append-nil (firsts [] ss)) in
      let g : k.groups ≡ k.groups + 0 = omega arith in
      let u : k.used ≡ k.used + 0 = omega arith in
      let v : k.cued ≡ k.cued + 0 = omega arith in
      record {
        count = sym g ∙ h.count ∙ ap length same;
        texts = parts_same g u (ap (map (script_report ones)) same) h.texts;
        numbers = parts_same g v (ap (map script_cues) same) h.numbers;
      }

  -- the first of a new one
  pub known_no : among s ss ≡ false → (len count : ℕ) → k.groups < length lengths → length counts ≡ length lengths → take len (drop k.used reports) ≡ script_report ones s → len ≤ longest_report
      → take count (drop k.cued cues) ≡ cues_of s.rows → count ≤ 256 → Firsts (ss ++ (s ∷ [])) (more true k len count) (set lengths k.groups len) reports (set counts k.groups count) cues
  known_no e len count l c f m g n =
      let grown : firsts [] ss ++ (s ∷ []) ≡ firsts [] (ss ++ (s ∷ [])) = sym (firsts_end [] ss s ∙ ap (λ b. firsts [] ss ++ cond b [] (s ∷ [])) e) in
      record {
        count = omega (arith, h.count, length-append (firsts [] ss) (s ∷ []), ap length grown);
        texts = subst (Parts longest_report (k.groups + 1) (k.used + len) (set lengths k.groups len) reports) (sym (map_end (script_report ones) (firsts [] ss) s) ∙ ap (map (script_report ones)) grown) (part_more _ _ _ _ _ _ _ _ h.texts l f m);
        numbers = subst (Parts 256 (k.groups + 1) (k.cued + count) (set counts k.groups count) cues) (sym (map_end script_cues (firsts [] ss) s) ∙ ap (map script_cues) grown) (part_more _ _ _ _ _ _ _ _ h.numbers (omega arith) g n);
      }

-- ---- the search, first by first
pub among_none : (s : Script) (ss : List Script) (lengths text : List ℕ) → length lengths ≡ 0 → cut_by lengths text ≡ map (script_report ones) ss → false ≡ among s ss
unfolding cut_by among
among_none s [] lengths text h e = refl
among_none s (t ∷ ss) [] text h e = absurd (omega (arith, ap length e))
among_none s (t ∷ ss) (n ∷ ns) text h e = absurd (omega arith)

-- the first of the parts, and the others
split_parts : (f : Script → List ℕ) (t : Script) (ts : List Script) (lengths text : List ℕ) → (length lengths ≡ 0 → ⊥) → cut_by lengths text ≡ map f (t ∷ ts)
    → (take (get_or lengths 0 0) text ≡ f t) × (cut_by (drop 1 lengths) (drop (get_or lengths 0 0) text) ≡ map f ts)
unfolding cut_by
split_parts f t ts [] text h e = absurd (h refl)
split_parts f t ts (n ∷ ns) text h e = (ap (λ (l : List (List ℕ)). get_or l 0 []) e, ap (λ (l : List (List ℕ)). drop 1 l) e)

no_parts : (lengths text : List ℕ) → (length lengths ≡ 0 → ⊥) → cut_by lengths text ≡ [] → ⊥
unfolding cut_by
no_parts [] text h e = h refl
no_parts (n ∷ ns) text h e = omega (arith, ap length e)

module _ (s : Script) (lengths text counts cues : List ℕ) (some : length lengths ≡ 0 → ⊥) (same : length counts ≡ length lengths) {known : Bool}
    (first : (t : Script) → take (get_or lengths 0 0) text ≡ script_report ones t → take (get_or counts 0 0) cues ≡ script_cues t → known ≡ same_group t s) where
  both : length counts ≡ 0 → ⊥
  both e = some (sym same ∙ e)

  pub among_first : (ss : List Script) → cut_by lengths text ≡ map (script_report ones) ss → cut_by counts cues ≡ map script_cues ss → known ≡ true → true ≡ among s ss
  unfolding among
  among_first [] e f h = absurd (no_parts lengths text some e)
  among_first (t ∷ ts) e f h =
      let (a, b) = split_parts (script_report ones) t ts lengths text some e in
      let (c, d) = split_parts script_cues t ts counts cues both f in
      sym (ap (λ z. z || among s ts) (sym (first t a c) ∙ h))

  pub among_later : (ss : List Script) → cut_by lengths text ≡ map (script_report ones) ss → cut_by counts cues ≡ map script_cues ss → known ≡ false → {later : Bool}
      → ((ts : List Script) → cut_by (drop 1 lengths) (drop (get_or lengths 0 0) text) ≡ map (script_report ones) ts → cut_by (drop 1 counts) (drop (get_or counts 0 0) cues) ≡ map script_cues ts → later ≡ among s ts) → later ≡ among s ss
  unfolding among
  among_later [] e f h rest = absurd (no_parts lengths text some e)
  among_later (t ∷ ts) e f h rest =
      let (a, b) = split_parts (script_report ones) t ts lengths text some e in
      let (c, d) = split_parts script_cues t ts counts cues both f in
      rest ts b d ∙ sym (ap (λ z. z || among s ts) (sym (first t a c) ∙ h))

-- the sum of the lengths after the first
pub total_rest : (lengths : List ℕ) → (length lengths ≡ 0 → ⊥) → total lengths ≡ get_or lengths 0 0 + total (drop 1 lengths)
unfolding total
total_rest [] h = absurd (h refl)
total_rest (n ∷ ns) h = refl

-- and of another list of as many
pub total_also : (lengths counts : List ℕ) → (length lengths ≡ 0 → ⊥) → length counts ≡ length lengths → total counts ≡ get_or counts 0 0 + total (drop 1 counts)
total_also lengths counts h e = total_rest counts (λ z. h (sym e ∙ z))

-- the parts from the front of the list alone
front_parts : {most groups used : ℕ} {lengths text : List ℕ} {parts : List (List ℕ)} → Parts most groups used lengths text parts → cut_by (take groups lengths) (take used text) ≡ parts
front_parts {groups = groups} {used} {lengths} {text} h = parts_front (take groups lengths) (take used text) text used (omega (arith, h.sum)) (take-take used used text (omega arith)) ∙ h.each

-- what the search over the firsts says of all files
pub known_is : (ss : List Script) (s : Script) (k : Kept) (len count : ℕ) (lengths reports counts cues : List ℕ) → Firsts ss k lengths reports counts cues → take len (drop k.used reports) ≡ script_report ones s
    → take count (drop k.cued cues) ≡ cues_of s.rows → {known : Bool}
    → ((ts : List Script) (t : Script) → cut_by (take k.groups lengths) (take k.used reports) ≡ map (script_report ones) ts → cut_by (take k.groups counts) (take k.cued cues) ≡ map script_cues ts
    → take (k.used + len - k.used) (drop k.used reports) ≡ script_report ones t → take (k.cued + count - k.cued) (drop k.cued cues) ≡ cues_of t.rows → known ≡ among t ts)
    → known ≡ among s ss
known_is ss s k len count lengths reports counts cues h e f g =
    let n : k.used + len - k.used ≡ len = omega arith in
    let m : k.cued + count - k.cued ≡ count = omega arith in
    g (firsts [] ss) s (front_parts h.texts) (front_parts h.numbers) (ap (λ z. take z (drop k.used reports)) n ∙ e) (ap (λ z. take z (drop k.cued cues)) m ∙ f) ∙ among_firsts s ss

-- ---- two lists of numbers
pub equals_longer : (a b : List ℕ) → (length a ≡ length b → ⊥) → false ≡ equals a b
unfolding equals
equals_longer [] [] h = absurd (h refl)
equals_longer [] (y ∷ b) h = refl
equals_longer (x ∷ a) [] h = refl
equals_longer (x ∷ a) (y ∷ b) h = by (eqb y x) (equals_longer a b (λ e. h (ap suc e)))
  where
    by : (c : Bool) → false ≡ equals a b → false ≡ cond c (equals a b) false
    by true e = e
    by false e = refl

module _ (a b : List ℕ) (i : ℕ) (l : i < length a) (m : i < length b) where
  pub equals_step : get_or b i 0 ≡ get_or a i 0 → equals (drop i a) (drop i b) ≡ equals (drop (suc i) a) (drop (suc i) b)
  unfolding equals
  equals_step e = rw (drop-cons a i 0 l, drop-cons b i 0 m, eq-eqb _ _ e)

  pub equals_stop : (get_or b i 0 ≡ get_or a i 0 → ⊥) → equals (drop i a) (drop i b) ≡ false
  unfolding equals
  equals_stop e = rw (drop-cons a i 0 l, drop-cons b i 0 m, ne_eqb _ _ e)

pub equals_end : (a b : List ℕ) (i : ℕ) → length a ≤ i → length b ≤ i → equals (drop i a) (drop i b) ≡ true
unfolding equals
equals_end a b i l m = rw (drop_of_length-le a {i = i} l, drop_of_length-le b {i = i} m)
