-- Laws of texts in a row, and of writing them. Assumes nothing.
use mathlib.Core.Path.{◌≡◌, refl, sym, ap, ◌∙◌}
use mathlib.Core.List.{List, [], ◌∷◌, ◌++◌, append_assoc, append-nil}
use Prim.Native.Nat.{ℕ, zero, suc, ◌+◌, ◌*◌, ◌-◌, ◌/◌, ◌%◌, ◌≤◌, ◌<◌}
use native.Mathlib.Nat.{mul-suc}
use native.Mathlib.Numerals.{add-one, sub-one}
use native.Mathlib.Omega.{arith}
use lib.ListN.{length, get_or, take, drop, set, length-append, length-drop, drop_of_length-le, take-append-drop, length-map, get_or-map}
use lib.Seq.{take-suc, take_all, take-append_seam, drop-append_seam, drop-cons, set-append_seam, drop-drop}
use borrow.Rule.Slice.PartMut.{mid_of, put_mid}
use borrow.Author.Tests.{lt-ltb, le-ltb}
use Rattle.rules.specs.Calls.{over}
use Rattle.rules.specs.Report.{decimal, decimal_in, joined, key_line, newline}
use Rattle.report.specs.declared.pieces.Piece.{Piece}
use Rattle.report.specs.declared.pieces.Piece.TheVariants.{Nothing}
use Rattle.report.specs.Pieces.{piece_text, piece_texts, Wrote}

-- a line of a key and a number
pub key_parts : (key : List ℕ) (n : ℕ) → key_line key n ≡ (key ++ decimal_in 20 n) ++ newline
unfolding key_line joined decimal
key_parts key n = sym (append_assoc key (decimal_in 20 n) newline)

pub key_length : (key : List ℕ) (n : ℕ) → length (key_line key n) ≡ length key + length (decimal_in 20 n) + 1
key_length key n = rw (key_parts key n, length-append, length-append)

-- digits, by the tests of the code
digits_none : (k n : ℕ) → k ≡ 0 → decimal_in k n ≡ []
unfolding decimal_in
digits_none zero n h = refl
digits_none (suc k) n h = absurd (omega arith)

digits_one : (k n : ℕ) → (k ≡ 0 → ⊥) → n < 10 → decimal_in k n ≡ (48 + n) ∷ []
unfolding decimal_in
digits_one zero n h l = absurd (h refl)
digits_one (suc k) n h l = rw (lt-ltb n 10 l)

digits_more : (k n : ℕ) → (k ≡ 0 → ⊥) → 10 ≤ n → decimal_in k n ≡ decimal_in (k - 1) (n / 10) ++ ((48 + n % 10) ∷ [])
unfolding decimal_in
digits_more zero n h l = absurd (h refl)
digits_more (suc k) n h l = rw (le-ltb n 10 l, sub-one)

-- their length
pub room_none : (k n : ℕ) → k ≡ 0 → length (decimal_in k n) ≡ 0
room_none k n h = rw (digits_none k n h)

pub room_one : (k n : ℕ) → (k ≡ 0 → ⊥) → n < 10 → length (decimal_in k n) ≡ 1
room_one k n h l = rw (digits_one k n h l)

pub room_more : (k n : ℕ) → (k ≡ 0 → ⊥) → 10 ≤ n → length (decimal_in k n) ≡ length (decimal_in (k - 1) (n / 10)) + 1
room_more k n h l = rw (digits_more k n h l, length-append)

-- a text over the start of a buffer leaves its length
over_length : (text old : List ℕ) → length text ≤ length old → length (over text old) ≡ length old
unfolding over
over_length text old h = simp (length-append, length-drop) (omega arith)

pub wrote_length : (text old new : List ℕ) (r : ℕ) → length text ≤ length old → Wrote text old new r → length new ≡ length old
wrote_length text old new r h w = ap length w.kept ∙ over_length text old h

-- nothing written, one byte more, a copied text
pub wrote_nothing : (old : List ℕ) → Wrote [] old old 0
unfolding over
wrote_nothing old = record { count = refl; kept = refl }

pub wrote_byte : (text old new : List ℕ) (b at : ℕ) → length text < length old → Wrote text old new at → Wrote (text ++ (b ∷ [])) old (set new at b) (at + 1)
unfolding over
wrote_byte text old new b at h w = record {
  count = simp length-append (omega (arith, w.count));
  kept = rw (w.kept, w.count, drop-cons old (length text) 0 h, set-append_seam, length-append, add-one, append_assoc);
}

pub wrote_copy : (text part old new : List ℕ) (r : ℕ) → part ≡ text → r ≡ length part → new ≡ part ++ drop (length part) old → Wrote text old new r
unfolding over
wrote_copy text part old new r e f g = record { count = f ∙ ap length e; kept = g ∙ rw e }

-- the digits written, in each case of the code
pub wrote_none : (k n : ℕ) (old : List ℕ) → k ≡ 0 → Wrote (decimal_in k n) old old 0
wrote_none k n old h = rw (digits_none k n h) (wrote_nothing old)

pub wrote_one : (k n : ℕ) (old : List ℕ) → (k ≡ 0 → ⊥) → n < 10 → length (decimal_in k n) ≤ length old → Wrote (decimal_in k n) old (set old 0 (48 + n)) 1
wrote_one k n old h l room =
    rw (digits_one k n h l) (wrote_byte [] old old (48 + n) 0 (omega (arith, room_one k n h l)) (wrote_nothing old))

pub wrote_more : (k n : ℕ) (old new : List ℕ) (at : ℕ) → (k ≡ 0 → ⊥) → 10 ≤ n → length (decimal_in k n) ≤ length old →
    Wrote (decimal_in (k - 1) (n / 10)) old new at → Wrote (decimal_in k n) old (set new at (48 + n % 10)) (at + 1)
wrote_more k n old new at h l room w = rw (digits_more k n h l) (wrote_byte _ old new _ at (omega (arith, room_more k n h l)) w)

-- the part &mut s[a..], and what comes after it
pub part_rest : (s : List ℕ) (a : ℕ) → take (length s - a) (drop a s) ≡ drop a s
part_rest s a = take_all (length s - a) (drop a s) (simp length-drop (omega arith))

part_end : (s : List ℕ) (a : ℕ) → drop (length s - a) (drop a s) ≡ []
part_end s a = drop_of_length-le (drop a s) {i = length s - a} (simp length-drop (omega arith))

-- a text, and then another into the rest that is lent
pub wrote_then : (a b old mid ys : List ℕ) (r q : ℕ) →
    Wrote a old mid r → Wrote b (mid_of r (length mid - r) mid) ys q → Wrote (a ++ b) old (put_mid r (length mid - r) mid ys) (r + q)
unfolding over
wrote_then a b old mid ys r q v w = record {
  count = simp length-append (omega (arith, v.count, w.count));
  kept = rw (part_end mid r, append-nil, w.kept, part_rest mid r, v.kept, v.count, take-append_seam, drop-append_seam, drop-drop, length-append, append_assoc);
}

-- texts, one after the other
pub joined_append : (a b : List (List ℕ)) → joined (a ++ b) ≡ joined a ++ joined b
unfolding joined
joined_append [] b = refl
joined_append (t ∷ a) b = rw (joined_append a b, append_assoc)

joined_next : (ts : List (List ℕ)) (i : ℕ) → i < length ts → joined (take (suc i) ts) ≡ joined (take i ts) ++ get_or ts i []
unfolding joined
joined_next ts i h = rw (take-suc ts i [] h, joined_append) (ap (λ (l : List ℕ). joined (take i ts) ++ l) (append-nil _))

-- room for the next text
pub joined_room : (ts : List (List ℕ)) (i : ℕ) → i < length ts → length (joined (take i ts)) + length (get_or ts i []) ≤ length (joined ts)
joined_room ts i h = omega (arith, simp length-append at (ap length (joined_next ts i h)), simp length-append at (ap length split))
  where
    split : joined ts ≡ joined (take (suc i) ts) ++ joined (drop (suc i) ts)
    split = ap joined (sym (take-append-drop (suc i) ts)) ∙ joined_append (take (suc i) ts) (drop (suc i) ts)

-- the first i texts measured: their length, at most w each
pub record Measured (w : ℕ) (ts : List (List ℕ)) (len i : ℕ) : Type 0 where
  pub within : i ≤ length ts
  pub count : len ≡ length (joined (take i ts))
  pub small : len ≤ w * i

pub measured_none : (w : ℕ) (ts : List (List ℕ)) → Measured w ts 0 0
unfolding joined
measured_none w ts = record { within = omega arith; count = refl; small = omega arith }

pub measured_all : (w : ℕ) (ts : List (List ℕ)) (len i : ℕ) → Measured w ts len i → length ts ≤ i → len ≡ length (joined ts)
measured_all w ts len i m h = m.count ∙ ap (λ (l : List (List ℕ)). length (joined l)) (take_all i ts h)

pub measured_more : (w : ℕ) (ts : List (List ℕ)) (len i r : ℕ) → Measured w ts len i → i < length ts → r ≡ length (get_or ts i []) → r ≤ w → Measured w ts (len + r) (i + 1)
measured_more w ts len i r m h e b = rw add-one (record {
  within = h;
  count = rw (joined_next ts i h, length-append) (omega (arith, m.count, e));
  small = omega (arith, mul-suc w i, m.small, b);
})

-- the first i texts written
pub record Writing (ts : List (List ℕ)) (old new : List ℕ) (at i : ℕ) : Type 0 where
  pub within : i ≤ length ts
  pub same : length new ≡ length old
  pub wrote : Wrote (joined (take i ts)) old new at

pub writing_none : (ts : List (List ℕ)) (old : List ℕ) → Writing ts old old 0 0
unfolding joined
writing_none ts old = record { within = omega arith; same = refl; wrote = wrote_nothing old }

pub writing_room : (ts : List (List ℕ)) (old new : List ℕ) (at i : ℕ) → Writing ts old new at i → i < length ts → length (joined ts) ≤ length old → at + length (get_or ts i []) ≤ length new
writing_room ts old new at i v h room = omega (arith, joined_room ts i h, v.wrote.count, v.same)

pub writing_more : (ts : List (List ℕ)) (old new ys : List ℕ) (at i q : ℕ) → Writing ts old new at i → i < length ts → length (joined ts) ≤ length old →
    Wrote (get_or ts i []) (mid_of at (length new - at) new) ys q → Writing ts old (put_mid at (length new - at) new ys) (at + q) (i + 1)
writing_more ts old new ys at i q v h room w = rw add-one (record {
  within = h;
  same = wrote_length _ _ _ _ (rw (joined_next ts i h, length-append) (omega (arith, joined_room ts i h))) next;
  wrote = next;
})
  where
    next : Wrote (joined (take (suc i) ts)) old (put_mid at (length new - at) new ys) (at + q)
    next = rw (joined_next ts i h) (wrote_then _ _ old new ys at q v.wrote w)

pub writing_all : (ts : List (List ℕ)) (old new : List ℕ) (at i : ℕ) → Writing ts old new at i → length ts ≤ i → Wrote (joined ts) old new at
writing_all ts old new at i v h = rw (take_all i ts h) at v.wrote

-- three texts, each written into the rest
module _ (a b c old : List ℕ) (room : length (joined (a ∷ (b ∷ (c ∷ [])))) ≤ length old) where
  abbrev three : List (List ℕ)
  three = a ∷ (b ∷ (c ∷ []))

  pub first_room : length a ≤ length old
  first_room = omega (arith, joined_room three 0 (omega arith))

  pub first_written : (new : List ℕ) (r : ℕ) → Wrote a old new r → Writing three old new r 1
  unfolding joined
  first_written new r w = record { within = omega arith; same = wrote_length _ _ _ _ first_room w; wrote = rw append-nil w }

  pub second_room : (new : List ℕ) (r : ℕ) → Wrote a old new r → r + length b ≤ length new
  second_room new r w = writing_room _ _ _ _ _ (first_written new r w) (omega arith) room

  pub second_written : (new ys : List ℕ) (r q : ℕ) → Wrote a old new r → Wrote b (mid_of r (length new - r) new) ys q → Writing three old (put_mid r (length new - r) new ys) (r + q) 2
  second_written new ys r q w = writing_more _ _ _ _ _ _ _ (first_written new r w) (omega arith) room

  pub third_room : (new ys : List ℕ) (r q : ℕ) → Wrote a old new r → Wrote b (mid_of r (length new - r) new) ys q → r + q + length c ≤ length (put_mid r (length new - r) new ys)
  third_room new ys r q w v = writing_room _ _ _ _ _ (second_written new ys r q w v) (omega arith) room

  pub third_written : (new ys zs : List ℕ) (r q p : ℕ) → Wrote a old new r → Wrote b (mid_of r (length new - r) new) ys q →
      let next = put_mid r (length new - r) new ys in
      Wrote c (mid_of (r + q) (length next - (r + q)) next) zs p → Writing three old (put_mid (r + q) (length next - (r + q)) next zs) (r + q + p) 3
  third_written new ys zs r q p w v = writing_more _ _ _ _ _ _ _ (second_written new ys r q w v) (omega arith) room

-- a line's pieces
pub pieces_count : (ps : List Piece) → length (piece_texts ps) ≡ length ps
unfolding piece_texts
pieces_count ps = length-map ps piece_text

pub piece_at : (ps : List Piece) (i : ℕ) → get_or (piece_texts ps) i [] ≡ piece_text (get_or ps i Nothing)
unfolding piece_texts
piece_at ps i = get_or-map piece_text ps i Nothing
