-- Numbers as prices, and the prices that a word lends. Assumes nothing.
use mathlib.Core.Path.{◌≡◌, sym, ap, ◌∙◌}
use mathlib.Core.List.{List, [], ◌∷◌, map}
use Prim.Native.Nat.{ℕ, ◌+◌, ◌≤◌, ◌<◌, ◌^◌}
use native.Mathlib.Numerals.{add-one}
use native.Mathlib.Omega.{arith}
use lib.IntN.{ℤ, pos}
use lib.Signed.{mag}
use lib.ListN.{length, get_or, set, take, drop}
use lib.Seq.{take-suc, take-suc-set, take_all}
use Rattle.std.proofs.lemmas.List.{map-append}
use mir.Syntax.{w32}
use mir.Val.{SFits, to_z, of_z, hbits}
use mir.Facts.{to_z-of_z}
use mathlib.Core.Bool.{true, false}
use Rattle.std.specs.Prelude.{Result, Ok, Err, Option, None, Some}
use Rattle.rules.specs.Text.{split, starts_with}
use Rattle.program_words.specs.Lists.{comma, prices_key, values_in, values_kept, price_of, lent_count, count_by, some_lent, lent_by, FewLent, prices_by, prices_lent, LentAs, ListLent}

-- a number as code holds it
pub back : (z : ℤ) (r : ℕ) → mag z < 2 ^ hbits w32 → r ≡ price_of (to_z w32 (of_z w32 z)) → r ≡ price_of z
back z r h e = let f : SFits w32 z = record { sfits = h } in rw (to_z-of_z f) at e

-- one more is put
pub price_put : (l : List ℤ) (p : List ℕ) (i r : ℕ) → take i p ≡ map price_of (take i l) → i < length l → i < length p → r ≡ price_of (get_or l i (pos 0))
    → take (i + 1) (set p i r) ≡ map price_of (take (i + 1) l)
price_put l p i r e h k f =
    rw (add-one i, take-suc-set p i r k, take-suc l i (pos 0) h, map-append price_of (take i l) (get_or l i (pos 0) ∷ []), e, f)

pub prices_put : (l : List ℤ) (p : List ℕ) (i : ℕ) → take i p ≡ map price_of (take i l) → length l ≤ i → length p ≤ i → p ≡ map price_of l
prices_put l p i e h k = sym (take_all i p k) ∙ e ∙ ap (map price_of) (take_all i l h)

-- ---- what is lent
pub list_lent : (ws : List (List ℕ)) (kept : Result ℕ ℕ) (store : List ℤ) (new : List ℕ) → kept ≡ values_in 0 ws
    → store ≡ values_kept ws 0 (pos 1 ∷ pos 1 ∷ pos 1 ∷ pos 1 ∷ pos 1 ∷ []) → new ≡ map price_of store → length new ≡ 5
    → ListLent (count_by ws) (prices_by ws) (lent_count kept) new
unfolding prices_by
list_lent ws kept store new e f g h = record { said = ap lent_count e; kept = g ∙ ap (map price_of) f; few = few kept; five = h }
  where
    few : (k : Result ℕ ℕ) → FewLent (some_lent (lent_count k))
    few (Ok n) = omega arith
    few (Err i) = tt

pub word_lent : (word list old : List ℕ) (r : Result ℕ ℕ) (new : List ℕ) → starts_with prices_key word ≡ true → list ≡ drop 7 word
    → ListLent (count_by (split comma list)) (prices_by (split comma list)) r new → LentAs (lent_by word) (prices_lent word old) (some_lent r) new
unfolding lent_by prices_lent
word_lent word list old r new e f k = record { said = rw (e, ← f) (ap some_lent k.said); kept = rw (e, ← f) k.kept; few = k.few; five = k.five }

pub none_lent : (word old : List ℕ) → starts_with prices_key word ≡ false → length old ≡ 5 → LentAs (lent_by word) (prices_lent word old) (Ok None) old
unfolding lent_by prices_lent
none_lent word old e h = record { said = rw e; kept = rw e; few = tt; five = h }

-- what is lent lies in the five
pub lent_within : (l r : Result (Option ℕ) ℕ) (p new : List ℕ) (n : ℕ) → LentAs l p r new → r ≡ Ok (Some n) → n ≤ length new
lent_within l r p new n h e = let k : n ≤ 5 = rw e at h.few in omega (arith, h.five)
