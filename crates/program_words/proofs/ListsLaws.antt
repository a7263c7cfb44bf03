-- Lists of values, one word more. Assumes nothing.
use mathlib.Core.Path.{◌≡◌, refl, sym, ap, ◌∙◌}
use mathlib.Core.Bool.{Bool, true, false}
use mathlib.Core.List.{List, [], ◌∷◌}
use Prim.Native.Nat.{ℕ, suc, ◌+◌, ◌≤◌, ◌<◌}
use native.Mathlib.Numerals.{add-one}
use native.Mathlib.Omega.{arith}
use lib.IntN.{ℤ}
use lib.ListN.{length, get_or, drop, length-set, drop_of_length-le}
use lib.Seq.{drop-cons}
use Rattle.program_words.specs.Words.{value_in, is_value, kept_in, done_if}
use Rattle.std.specs.Prelude.{Option, None, Some, Ok, Err}
use Rattle.std.specs.Option.{ok_or}
use Rattle.program_words.specs.Lists.{values_in, values_kept}

-- ---- values
-- one word more
value_none : (w : List ℕ) (ws : List (List ℕ)) (n : ℕ) (s : List ℤ) → is_value (value_in w) ≡ false
    → (values_in n (w ∷ ws) ≡ Err n) × (values_kept (w ∷ ws) n s ≡ kept_in (value_in w) s n)
unfolding values_in values_kept
value_none w ws n s h = (rw h, rw h (same (value_in w) h))
  where
    same : (v : Option ℤ) → is_value v ≡ false → s ≡ kept_in v s n
    same (Some x) e = absurd (let z : ◌≡◌ {A = Bool} true false = e in let y : ◌≡◌ {A = ℕ} 0 1 = cc in omega arith)
    same None e = refl

value_one : (w : List ℕ) (ws : List (List ℕ)) (n : ℕ) (s : List ℤ) → is_value (value_in w) ≡ true
    → (values_in n (w ∷ ws) ≡ values_in (suc n) ws) × (values_kept (w ∷ ws) n s ≡ values_kept ws (suc n) (kept_in (value_in w) s n))
unfolding values_in values_kept
value_one w ws n s h = (rw h, rw h)

kept_length : (v : Option ℤ) (s : List ℤ) (n : ℕ) → length (kept_in v s n) ≡ length s
kept_length (Some x) s n = length-set s n x
kept_length None s n = refl

-- by what `keep_value` and `ok_or` answer
pub kept_not : (o : Option (Unit {0})) (n e : ℕ) → Err e ≡ ok_or o n → (o ≡ None) × (e ≡ n)
kept_not (Some u) n e f = absurd (cc)
kept_not None n e f = (refl, cc)

pub kept_one : (o : Option (Unit {0})) (n : ℕ) (u : Unit {0}) → Ok u ≡ ok_or o n → o ≡ Some u
kept_one (Some v) n u f = cc
kept_one None n u f = absurd (cc)

pub value_wrong : (v : Option ℤ) → None ≡ done_if (is_value v) → is_value v ≡ false
value_wrong (Some x) e = absurd (cc)
value_wrong None e = refl

pub value_right : (v : Option ℤ) (u : Unit {0}) → Some u ≡ done_if (is_value v) → is_value v ≡ true
value_right (Some x) u e = refl
value_right None u e = absurd (cc)

-- the first `count` words are read and put
pub record ValuesRead (ws : List (List ℕ)) (old new : List ℤ) (count : ℕ) : Type 0 where
  pub few : count ≤ length ws
  pub size : length new ≡ length old
  pub counts : values_in 0 ws ≡ values_in count (drop count ws)
  pub store : values_kept ws 0 old ≡ values_kept (drop count ws) count new

pub values_start : (ws : List (List ℕ)) (old : List ℤ) → ValuesRead ws old old 0
values_start ws old = record { few = omega arith; size = refl; counts = refl; store = refl }

module _ (ws : List (List ℕ)) (old new : List ℤ) (count : ℕ) (k : ValuesRead ws old new count) where
  module _ (w : List ℕ) (n : ℕ) (m : count ≡ n) (t : (n < length ws) × (w ≡ get_or ws n w)) (next : List ℤ) (p : next ≡ kept_in (value_in w) new count) where
    h : (count < length ws) × (w ≡ get_or ws count w)
    h = rw m t

    here : drop count ws ≡ w ∷ drop (suc count) ws
    here = drop-cons ws count w h.0 ∙ ap (λ x. x ∷ drop (suc count) ws) (sym h.1)

    pub values_wrong : is_value (value_in w) ≡ false → (Err count ≡ values_in 0 ws) × (next ≡ values_kept ws 0 old)
    values_wrong g =
        let v = value_none w (drop (suc count) ws) count new g in
        (sym (k.counts ∙ ap (values_in count) here ∙ v.0), p ∙ sym (k.store ∙ ap (λ x. values_kept x count new) here ∙ v.1))

    pub values_more : is_value (value_in w) ≡ true → ValuesRead ws old next (count + 1)
    values_more g =
        let v = value_one w (drop (suc count) ws) count new g in
        record {
          few = omega (arith, h.0);
          size = ap length p ∙ kept_length (value_in w) new count ∙ k.size;
          counts = rw (add-one count) (k.counts ∙ ap (values_in count) here ∙ v.0);
          store = rw (add-one count) (k.store ∙ ap (λ x. values_kept x count new) here ∙ v.1 ∙ ap (values_kept (drop (suc count) ws) (suc count)) (sym p));
        }

  pub values_end : count ≡ length ws → (Ok count ≡ values_in 0 ws) × (new ≡ values_kept ws 0 old)
  unfolding values_in values_kept
  values_end e =
      let d : drop count ws ≡ [] = drop_of_length-le ws (omega arith) in
      (sym (k.counts ∙ ap (values_in count) d), sym (k.store ∙ ap (λ x. values_kept x count new) d))
