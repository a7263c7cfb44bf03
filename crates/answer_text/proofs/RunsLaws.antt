-- Laws of texts that are put behind what is written. Assumes nothing.
use mathlib.Core.Path.{◌≡◌, refl, sym, ◌∙◌, ap, subst}
use mathlib.Core.Bool.{Bool, true, false, cond}
use mathlib.Core.List.{List, [], ◌∷◌, ◌++◌, append_assoc, append-nil}
use Prim.Native.Nat.{ℕ, zero, suc, ◌+◌, ◌*◌, ◌-◌, ◌≤◌, ◌<◌}
use native.Mathlib.Omega.{arith}
use native.Mathlib.Nat.{mul-suc}
use lib.IntN.{ℤ, pos}
use lib.ListN.{length, take, set, length-append, length-take, length-set, take-append-drop, get_or}
use lib.Seq.{take_all, take-append_seam}
use lib.Dec.{eqb, eqb-suc-zero}
use lib.Signed.{lt_z}
use borrow.Rule.Slice.PartMut.{mid_of, put_mid}
use Rattle.rules.specs.Report.{decimal, size, joined, gap, newline, ticks_key}
use Rattle.rules.specs.Calls.{over}
use Rattle.report.specs.Pieces.{Wrote}
use Rattle.report.proofs.PiecesLaws.{wrote_nothing, wrote_byte, wrote_then, wrote_length}
use Rattle.report.proofs.Laws.{below_sign, above_sign}
use Rattle.rules.specs.declared.Ending.{Ending}
use Rattle.rules.specs.declared.LoopCount.{LoopCount}
use Rattle.answer_text.specs.Texts.{value_text, listed, values_text, three_text, count_text, count_texts, ending_key, used_key, store_key, front_text, run_text}
use Rattle.answer_text.specs.Adding.{Adds}

-- what stands there is written
standing : (old : List ℕ) (at : ℕ) → at ≤ length old → Wrote (take at old) old old at
unfolding over
standing old at l = let n : length (take at old) ≡ at = simp length-take (omega arith) in record { count = sym n; kept = rw n (sym (take-append-drop at old)) }

-- into the part behind it
pub adds_part : (more old ys : List ℕ) (at q : ℕ) → at + length more ≤ length old → Wrote more (mid_of at (length old - at) old) ys q
    → Adds more at old (put_mid at (length old - at) old ys) (at + q)
adds_part more old ys at q room w = record {
  count = omega (arith, w.count);
  long = wrote_length (take at old ++ more) old _ _ (simp (length-append, length-take) (omega arith)) (wrote_then _ _ _ _ _ _ _ (standing old at (omega arith)) w);
  wrote = λ base text v l. wrote_then _ _ _ _ _ _ _ v w;
}

pub adds_byte : (old : List ℕ) (b at : ℕ) → at < length old → Adds (b ∷ []) at old (set old at b) (at + 1)
adds_byte old b at l = record { count = refl; long = length-set old at b; wrote = λ base text v k. wrote_byte text base old b at (omega arith) v }

pub adds_none : (old : List ℕ) (at : ℕ) → Adds [] at old old at
adds_none old at = record { count = omega arith; long = refl; wrote = λ base text v l. subst (λ t. Wrote t base old at) (sym (append-nil text)) v }

pub adds_join : (a b : List ℕ) (old mid new : List ℕ) (at r s : ℕ) → Adds a at old mid r → Adds b r mid new s → Adds (a ++ b) at old new s
adds_join a b old mid new at r s f g = record {
  count = simp length-append (omega (arith, f.count, g.count));
  long = g.long ∙ f.long;
  wrote = λ base text v l.
      let n = length-append a b in
      subst (λ t. Wrote t base new s) (append_assoc text a b) (g.wrote base (text ++ a) (f.wrote base text v (omega arith)) (simp length-append (omega arith)));
}

pub adds_is : {a b : List ℕ} {old new : List ℕ} {at r : ℕ} → a ≡ b → Adds a at old new r → Adds b at old new r
adds_is {a} {b} {old} {new} {at} {r} e h = subst (λ t. Adds t at old new r) e h

-- the whole text
pub adds_whole : (more old new : List ℕ) (r : ℕ) → length more ≤ length old → Adds more 0 old new r → Wrote more old new r
adds_whole more old new r l h = h.wrote old [] (wrote_nothing old) (omega arith)

-- ---- a value, by the tests of the code
abbrev lead : Bool → List ℕ
lead first = cond first [] gap

pub value_below : (first b : Bool) (v : ℤ) (n : ℕ) → first ≡ b → lt_z v (pos 0) ≡ true → n ≡ size v → (lead b ++ (45 ∷ [])) ++ decimal n ≡ value_text first v
unfolding value_text
value_below first b v n f e g = append_assoc (lead b) (45 ∷ []) (decimal n) ∙ (λ k. lead (sym f k) ++ (below_sign v e k ++ decimal (g k)))

pub value_above : (first b : Bool) (v : ℤ) (n : ℕ) → first ≡ b → lt_z v (pos 0) ≡ false → n ≡ size v → lead b ++ decimal n ≡ value_text first v
unfolding value_text
value_above first b v n f e g = λ k. lead (sym f k) ++ (above_sign v e k ++ decimal (g k))

-- ---- lists and counts, one more at the end
module _ {A : Type 0} (piece : Bool → A → List ℕ) where
  listed_next : (first : Bool) (vs : List A) (i : ℕ) → suc i < length vs → (d : A) → listed piece first (take (suc (suc i)) vs) ≡ listed piece first (take (suc i) vs) ++ piece false (get_or vs (suc i) d)
  unfolding listed
  listed_next first [] i l d = absurd (omega arith)
  listed_next first (v ∷ []) i l d = absurd (omega arith)
  listed_next first (v ∷ (w ∷ vs)) zero l d = ap (λ t. piece first v ++ t) (append-nil (piece false w)) ∙ ap (λ t. t ++ piece false w) (sym (append-nil (piece first v)))
  listed_next first (v ∷ (w ∷ vs)) (suc i) l d =
      ap (λ t. piece first v ++ t) (listed_next false (w ∷ vs) i (omega arith) d) ∙ sym (append_assoc (piece first v) _ _)

  pub listed_more : (vs : List A) (i : ℕ) → i < length vs → (d : A) → listed piece true (take (suc i) vs) ≡ listed piece true (take i vs) ++ piece (eqb i 0) (get_or vs i d)
  unfolding listed
  listed_more [] i l d = absurd (omega arith)
  listed_more (v ∷ vs) zero l d = append-nil (piece true v)
  listed_more (v ∷ vs) (suc i) l d = listed_next true (v ∷ vs) i l d ∙ ap (λ b. listed piece true (take (suc i) (v ∷ vs)) ++ piece b (get_or (v ∷ vs) (suc i) d)) (sym (eqb-suc-zero i))

  -- the pieces before i are written, each of at most so many bytes
  pub record Listing (width : ℕ) (vs : List A) (at : ℕ) (old now : List ℕ) (end i : ℕ) : Type 0 where
    pub within : i ≤ length vs
    pub adds : Adds (listed piece true (take i vs)) at old now end
    pub small : end ≤ at + width * i

  pub listing_none : (width : ℕ) (vs : List A) (at : ℕ) (old : List ℕ) → Listing width vs at old old at 0
  unfolding listed
  listing_none width vs at old = record { within = omega arith; adds = adds_none old at; small = omega arith }

  pub listing_more : (width : ℕ) (vs : List A) (at : ℕ) (old now new : List ℕ) (end i r : ℕ) (d : A) (b : Bool) → Listing width vs at old now end i → i < length vs → b ≡ eqb i 0 → Adds (piece b (get_or vs i d)) end now new r → r ≤ end + width
      → Listing width vs at old new r (i + 1)
  listing_more width vs at old now new end i r d b h l e a k = record {
    within = omega arith;
    adds = subst (λ n. Adds (listed piece true (take n vs)) at old new r) (let e : suc i ≡ i + 1 = omega arith in e) (adds_is (ap (λ f. listed piece true (take i vs) ++ piece f (get_or vs i d)) e ∙ sym (listed_more vs i l d)) (adds_join _ _ _ _ _ _ _ _ h.adds a));
    small = omega (arith, h.small, mul-suc width i);
  }

  pub listing_all : (width : ℕ) (vs : List A) (at : ℕ) (old now : List ℕ) (end i : ℕ) → Listing width vs at old now end i → length vs ≤ i → Adds (listed piece true vs) at old now end
  listing_all width vs at old now end i h l = adds_is (ap (listed piece true) (take_all i vs l)) h.adds

pub counts_more : (cs : List LoopCount) (i : ℕ) → i < length cs → (d : LoopCount) → count_texts (take (suc i) cs) ≡ count_texts (take i cs) ++ count_text (get_or cs i d)
unfolding count_texts
counts_more [] i l d = absurd (omega arith)
counts_more (c ∷ cs) zero l d = append-nil (count_text c)
counts_more (c ∷ cs) (suc i) l d = ap (λ t. count_text c ++ t) (counts_more cs i (omega arith) d) ∙ sym (append_assoc (count_text c) _ _)

-- the counts before i are written
pub record Counting (cs : List LoopCount) (at : ℕ) (old now : List ℕ) (end i : ℕ) : Type 0 where
  pub adds : Adds (count_texts (take i cs)) at old now end
  pub small : end ≤ at + 68 * i

pub counting_none : (cs : List LoopCount) (at : ℕ) (old : List ℕ) → Counting cs at old old at 0
unfolding count_texts
counting_none cs at old = record { adds = adds_none old at; small = omega arith }

pub counting_more : (cs : List LoopCount) (at : ℕ) (old now new : List ℕ) (end i r : ℕ) (d : LoopCount) → Counting cs at old now end i → i < length cs → Adds (count_text (get_or cs i d)) end now new r → r ≤ end + 68
    → Counting cs at old new r (i + 1)
counting_more cs at old now new end i r d h l a k = record {
  adds = subst (λ n. Adds (count_texts (take n cs)) at old new r) (let e : suc i ≡ i + 1 = omega arith in e) (adds_is (sym (counts_more cs i l d)) (adds_join _ _ _ _ _ _ _ _ h.adds a));
  small = omega (arith, h.small);
}

pub counting_all : (cs : List LoopCount) (at : ℕ) (old now : List ℕ) (end i loops : ℕ) → i ≤ loops → loops ≤ i → Counting cs at old now end i → Adds (count_texts (take loops cs)) at old now end
counting_all cs at old now end i loops l k h = let e : i ≡ loops = omega arith in adds_is (ap (λ n. count_texts (take n cs)) e) h.adds

-- ---- a loop's line, and what comes before the values
five : (a b c d e : List ℕ) → (((a ++ b) ++ c) ++ d) ++ e ≡ a ++ (b ++ (c ++ (d ++ e)))
five a b c d e = simp append_assoc refl

four : (a b c d : List ℕ) → ((a ++ b) ++ c) ++ d ≡ a ++ (b ++ (c ++ d))
four a b c d = simp append_assoc refl

pub three_text_lem : (key : List ℕ) (a b c : ℕ) → (((key ++ decimal a) ++ (gap ++ decimal b)) ++ (gap ++ decimal c)) ++ newline ≡ three_text key a b c
unfolding three_text joined
three_text_lem key a b c = five key (decimal a) (gap ++ decimal b) (gap ++ decimal c) newline

pub front_text_lem : (ending : Ending) (row ticks used : ℕ) → (((ending_key ending ++ decimal row) ++ ((newline ++ ticks_key) ++ decimal ticks)) ++ ((newline ++ used_key) ++ decimal used)) ++ (newline ++ store_key) ≡ front_text ending row ticks used
unfolding front_text joined
front_text_lem ending row ticks used = five (ending_key ending) (decimal row) ((newline ++ ticks_key) ++ decimal ticks) ((newline ++ used_key) ++ decimal used) (newline ++ store_key)

pub run_text_lem : (ending : Ending) (row ticks used : ℕ) (store : List ℤ) (counts : List LoopCount)
    → ((front_text ending row ticks used ++ values_text store) ++ newline) ++ count_texts counts ≡ run_text ending row ticks used store counts
unfolding run_text
run_text_lem ending row ticks used store counts = four (front_text ending row ticks used) (values_text store) newline (count_texts counts)

pub wrote_is : {a b : List ℕ} {old new : List ℕ} {r : ℕ} → a ≡ b → Wrote a old new r → Wrote b old new r
wrote_is {a} {b} {old} {new} {r} e h = subst (λ t. Wrote t old new r) e h

-- the bytes that are answered are the text
pub wrote_front : (text old new : List ℕ) (r : ℕ) → Wrote text old new r → take r new ≡ text
unfolding over
wrote_front text old new r h = rw (h.kept, h.count, take-append_seam)
