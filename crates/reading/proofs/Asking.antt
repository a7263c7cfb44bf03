-- The walk over a word asks what the definitions ask of its tree.
use mathlib.Core.Path.{◌≡◌, refl, sym, ◌∙◌, ap}
use mathlib.Core.Bool.{Bool, true, false, cond, ◌&&◌}
use mathlib.Core.List.{List, [], ◌∷◌}
use Prim.Native.Nat.{ℕ, zero, suc, min, max, ◌+◌, ◌≤◌, ◌<◌}
use native.Mathlib.Omega.{arith}
use lib.Dec.{leb, ltb, eqb}
use lib.IntN.{ℤ, pos, negsuc}
use lib.Signed.{le_z}
use lib.ListN.{length}
use borrow.Author.Tests.{leb-true, leb-false, ltb-true, ltb-false, lt-ltb, le-ltb}
use Rattle.ints.proofs.Parts.{P, N, lone, neg_parts, le_z_true, le_z_false, le_z_yes!, le_z_no! }
use Rattle.rules.specs.Values.{lowest, highest, in_limits}
use Rattle.expressions.specs.Leaves.{ceiling, cut_z, cut_expr, cut_in}
use Rattle.rules.specs.declared.Word.{Word}
use Rattle.rules.specs.declared.Word.TheVariants.{Missing, Number, Variable, Compares, Keyword, Other}
use Rattle.rules.specs.declared.Operator.{Operator}
use Rattle.rules.specs.Expressions.{Expr, constant, variable, group, apply}
use Rattle.rules.specs.Text.{word_of}
use Rattle.rules.specs.Parse.{Parsed, parsed, shapeless, then_parse, is_mark, up_to_mark, from_mark, leaf, atom, Ahead, operator, other, ahead, after_term, after_factor, close, factor_of, read_expression, read_term, read_factor, at_end, parse, depth, operators}
use Rattle.rules.specs.File.{turn_of, first_refusal, asks_size, asks_leaves, asks_expr}
use Rattle.rules.proofs.Parsing.{after_length, Short, short, nothing as no_short, Later, later, stop as no-later, after_term_lem, after_factor_lem, short_term, short_factor, expression_is, term_is, factor_is}
use Rattle.reading.specs.Asking.{Sizes, no_sizes, noted, one_more, sizes_from, decided, due, inside, shut, stop, on, goes, leaf_act, close_act, mark_act, act, finished, end_question, word_question}

-- ---- what is counted
refusal_none : (p : ℕ) → first_refusal p 0 ≡ p
unfolding first_refusal
refusal_none zero = refl
refusal_none (suc p) = refl

refusal_assoc : (p q r : ℕ) → first_refusal (first_refusal p q) r ≡ first_refusal p (first_refusal q r)
unfolding first_refusal
refusal_assoc zero q r = refl
refusal_assoc (suc p) zero r = refl
refusal_assoc (suc p) (suc q) zero = refusal_none (cond (leb (turn_of (suc p)) (turn_of (suc q))) (suc p) (suc q))
refusal_assoc (suc p) (suc q) (suc r) = by (leb P Q) (leb Q R) (leb P R) refl refl refl
  where
    P : ℕ
    P = turn_of (suc p)

    Q : ℕ
    Q = turn_of (suc q)

    R : ℕ
    R = turn_of (suc r)

    by : (a b c : Bool) → leb P Q ≡ a → leb Q R ≡ b → leb P R ≡ c → first_refusal (cond a (suc p) (suc q)) (suc r) ≡ first_refusal (suc p) (cond b (suc q) (suc r))
    by true true true d e f = rw (d, f)
    by true true false d e f = absurd (omega (arith, leb-true P Q d, leb-true Q R e, leb-false P R f))
    by true false c d e f = rw f
    by false true c d e f = rw (d, e)
    by false false true d e f = absurd (omega (arith, leb-false P Q d, leb-false Q R e, leb-true P R f))
    by false false false d e f = rw (e, f)

-- a tree's sizes, after others
unfoldable after_all : ℕ → ℕ → Expr → Sizes → Sizes
after_all vars d x a = record { deep = max a.deep (d + depth x); ops = a.ops + operators x; asks = first_refusal a.asks (asks_leaves vars x) }

counted_is : (vars d : ℕ) (x : Expr) (a : Sizes) → sizes_from vars d x a ≡ after_all vars d x a
unfolding sizes_from noted one_more depth operators asks_leaves after_all
counted_is vars d (constant k) a = let e : d ≡ d + 0 = omega arith in let n : a.ops ≡ a.ops + 0 = omega arith in λ t. record { deep = max a.deep (e t); ops = n t; asks = first_refusal a.asks (asks_leaves vars (constant k)) }
counted_is vars d (variable w) a = let e : d ≡ d + 0 = omega arith in let n : a.ops ≡ a.ops + 0 = omega arith in λ t. record { deep = max a.deep (e t); ops = n t; asks = first_refusal a.asks (asks_leaves vars (variable w)) }
counted_is vars d (group x) a = counted_is vars (suc d) x a ∙ (let e : suc d + depth x ≡ d + suc (depth x) = omega arith in λ t. record { deep = max a.deep (e t); ops = a.ops + operators x; asks = first_refusal a.asks (asks_leaves vars x) })
counted_is vars d (apply o x y) a =
    let m : max (max a.deep (d + depth x)) (d + depth y) ≡ max a.deep (d + max (depth x) (depth y)) = omega arith in
    let n : suc (a.ops + operators x) + operators y ≡ a.ops + suc (operators x + operators y) = omega arith in
    ap (λ b. sizes_from vars d y (one_more b)) (counted_is vars d x a) ∙ counted_is vars d y (one_more (after_all vars d x a))
    ∙ (λ t. record { deep = m t; ops = n t; asks = refusal_assoc a.asks (asks_leaves vars x) (asks_leaves vars y) t })

counted_whole : (vars : ℕ) (x : Expr) → decided (sizes_from vars 0 x no_sizes) ≡ first_refusal (asks_size x) (asks_leaves vars x)
unfolding decided asks_size after_all first_refusal
counted_whole vars x =
    ap decided (counted_is vars 0 x no_sizes)
    ∙ (let m : max 0 (0 + depth x) ≡ depth x = omega arith in let n : 0 + operators x ≡ operators x = omega arith in λ t. first_refusal (cond (leb (m t) 8 && leb (n t) 15) 0 17) (asks_leaves vars x))

-- ---- a number that is cut off is as far past its limits
cut_parts_lem : (z : ℤ) → (P (cut_z z) ≡ min (P z) 2_000_000_001) × (N (cut_z z) ≡ min (N z) 2_000_000_001)
unfolding cut_z ceiling
cut_parts_lem (pos n) = omega arith
cut_parts_lem (negsuc n) = let e = neg_parts (pos (min (suc n) 2_000_000_001)) in omega (arith, e)

cut_limits : (z : ℤ) → in_limits (cut_z z) ≡ in_limits z
unfolding lowest highest
cut_limits z = let c = cut_parts_lem z in λ t. (low (le_z (negsuc 999_999_999) z) refl t && high (le_z z (pos 1_000_000_000)) refl t)
  where
    low : (b : Bool) → le_z (negsuc 999_999_999) z ≡ b → le_z (negsuc 999_999_999) (cut_z z) ≡ le_z (negsuc 999_999_999) z
    low true e = le_z_yes! (negsuc 999_999_999) (cut_z z) (omega (arith, le_z_true (negsuc 999_999_999) z e, cut_parts_lem z, lone z)) ∙ sym e
    low false e = le_z_no! (negsuc 999_999_999) (cut_z z) (omega (arith, le_z_false (negsuc 999_999_999) z e, cut_parts_lem z, lone z)) ∙ sym e

    high : (b : Bool) → le_z z (pos 1_000_000_000) ≡ b → le_z (cut_z z) (pos 1_000_000_000) ≡ le_z z (pos 1_000_000_000)
    high true e = le_z_yes! (cut_z z) (pos 1_000_000_000) (omega (arith, le_z_true z (pos 1_000_000_000) e, cut_parts_lem z, lone z)) ∙ sym e
    high false e = le_z_no! (cut_z z) (pos 1_000_000_000) (omega (arith, le_z_false z (pos 1_000_000_000) e, cut_parts_lem z, lone z)) ∙ sym e

cut_below : (v vars : ℕ) → vars ≤ 16 → ltb (min v 2_000_000_001) vars ≡ ltb v vars
cut_below v vars f = by (ltb v vars) refl
  where
    by : (b : Bool) → ltb v vars ≡ b → ltb (min v 2_000_000_001) vars ≡ ltb v vars
    by true e = lt-ltb (min v 2_000_000_001) vars (omega (arith, ltb-true v vars e)) ∙ sym e
    by false e = le-ltb (min v 2_000_000_001) vars (omega (arith, ltb-false v vars e, f)) ∙ sym e

-- ---- where a walk is
module _ (vars : ℕ) where
  abbrev pub at_due : ℕ → Sizes → List ℕ → ℕ
  at_due d a s = word_question vars due d a s

  abbrev pub at_shut : ℕ → Sizes → List ℕ → ℕ
  at_shut d a s = word_question vars shut d a s

  -- a leaf's other bytes are passed over
  pub walk_inside : (d : ℕ) (a : Sizes) (s : List ℕ) → word_question vars inside d a s ≡ at_shut d a (from_mark s)
  unfolding word_question end_question act from_mark
  walk_inside d a [] = refl
  walk_inside d a (b ∷ s) = by (is_mark b) refl (walk_inside d a s)
    where
      by : (t : Bool) → is_mark b ≡ t → word_question vars inside d a s ≡ at_shut d a (from_mark s) → goes (cond t (mark_act d a b) (on inside d a)) (λ m d a. word_question vars m d a s) ≡ word_question vars shut d a (cond t (b ∷ s) (from_mark s))
      by true e h = refl
      by false e h = unfold goes in h

  -- on from an operator, or not
  on_from : Ahead → (List ℕ → ℕ) → ℕ → ℕ
  on_from (operator o t) k n = k t
  on_from other k n = n

  -- `)` after an expression, or the end
  close_to : ℕ → Sizes → List ℕ → ℕ
  close_to zero a s = 3
  close_to (suc d) a s = at_shut d a s

  closing : ℕ → Sizes → List ℕ → ℕ
  closing d a [] = finished d a
  closing d a (b ∷ s) = cond (eqb b 41) (close_to d a s) 3

  after_t : ℕ → Sizes → List ℕ → ℕ
  after_t d a r = on_from (after_term r) (λ t. at_due d (one_more a) t) (closing d a r)

  shut_is : (d : ℕ) (a : Sizes) (r : List ℕ) → at_shut d a r ≡ on_from (after_factor r) (λ t. at_due d (one_more a) t) (after_t d a r)
  unfolding word_question end_question act mark_act after_factor after_term after_t on_from closing goes
  shut_is d a [] = refl
  shut_is d a (b ∷ s) = by (eqb b 42) (eqb b 43) (eqb b 45) (eqb b 41)
    where
      last : (d : ℕ) → goes (close_act d a) (λ m d a. word_question vars m d a s) ≡ close_to d a s
      last zero = unfold close_act close_to in refl
      last (suc d) = unfold close_act close_to in refl

      by : (p q r u : Bool)
          → goes (cond p (on due d (one_more a)) (cond q (on due d (one_more a)) (cond r (on due d (one_more a)) (cond u (close_act d a) stop)))) (λ m d a. word_question vars m d a s)
          ≡ on_from (cond p (operator Operator.Mul s) other) (λ t. at_due d (one_more a) t) (on_from (cond q (operator Operator.Add s) (cond r (operator Operator.Sub s) other)) (λ t. at_due d (one_more a) t) (cond u (close_to d a s) 3))
      by true q r u = refl
      by false true r u = refl
      by false false true u = refl
      by false false false true = last d
      by false false false false = refl

  -- on with what was read
  unfoldable pub follow : Parsed → (Expr → List ℕ → ℕ) → ℕ
  follow (parsed x r) k = k x r
  follow shapeless k = 3

  -- ---- a term of factors, an expression of terms: `part` reads one, `look` the operator after it, `chain` all of them
  module _ (part : List ℕ → Parsed) (look : List ℕ → Ahead) (chain : (Expr → Expr) → List ℕ → Parsed)
      (is : (left : Expr → Expr) (s : List ℕ) → chain left s ≡ then_parse (part s) λ x r. ahead (look r) (λ o t. chain (apply o (left x)) t) (parsed (left x) r))
      (go end : ℕ → Sizes → List ℕ → ℕ)
      (go-is : (d : ℕ) (a : Sizes) (r : List ℕ) → go d a r ≡ on_from (look r) (λ t. at_due d (one_more a) t) (end d a r))
      (shorter : (s : List ℕ) → Short s (part s)) (further : (s : List ℕ) → Later s (look s)) where
    abbrev Parts : ℕ → List ℕ → Type 0
    Parts d s = (b : Sizes) (u : List ℕ) → length u ≤ length s → at_due d b u ≡ follow (part u) (λ x r. go d (sizes_from vars d x b) r)

    abbrev Claim : ℕ → ℕ → Type 0
    Claim n d =
        (a a0 : Sizes) (left : Expr → Expr) (s : List ℕ) → length s < n → ((x : Expr) → sizes_from vars d (left x) a0 ≡ sizes_from vars d x a) → Parts d s
        → at_due d a s ≡ follow (chain left s) (λ x r. end d (sizes_from vars d x a0) r)

    look_step : (n d : ℕ) → Claim n d → (a a0 : Sizes) (left : Expr → Expr) (x : Expr) (r : List ℕ) (k : Ahead) → Later r k → length r < suc n → ((x : Expr) → sizes_from vars d (left x) a0 ≡ sizes_from vars d x a) → Parts d r
        → on_from k (λ t. at_due d (one_more (sizes_from vars d x a)) t) (end d (sizes_from vars d x a) r) ≡ follow (ahead k (λ o t. chain (apply o (left x)) t) (parsed (left x) r)) (λ y r. end d (sizes_from vars d y a0) r)
    unfolding on_from ahead follow sizes_from
    look_step n d ih a a0 left x r _ (later {o = o} {r = t} g) l h p =
        let e = after_length g in
        ih (one_more (sizes_from vars d x a)) a0 (apply o (left x)) t (omega arith) (λ y. ap (λ b. sizes_from vars d y (one_more b)) (h x)) (λ b u m. p b u (omega arith))
    look_step n d ih a a0 left x r _ no-later l h p = ap (λ b. end d b r) (sym (h x))

    part_step : (n d : ℕ) → Claim n d → (a a0 : Sizes) (left : Expr → Expr) (s : List ℕ) (q : Parsed) → Short s q → length s < suc n → ((x : Expr) → sizes_from vars d (left x) a0 ≡ sizes_from vars d x a) → Parts d s
        → follow q (λ x r. go d (sizes_from vars d x a) r) ≡ follow (then_parse q λ x r. ahead (look r) (λ o t. chain (apply o (left x)) t) (parsed (left x) r)) (λ x r. end d (sizes_from vars d x a0) r)
    unfolding then_parse follow
    part_step n d ih a a0 left s _ (short {x = x} {r = r} g) l h p =
        let e = after_length g in
        go-is d (sizes_from vars d x a) r ∙ look_step n d ih a a0 left x r (look r) (further r) (omega arith) h (λ b u m. p b u (omega arith))
    part_step n d ih a a0 left s _ no_short l h p = refl

    chain_walk : (n d : ℕ) → Claim n d
    chain_walk zero d a a0 left s l h p = absurd (omega arith)
    chain_walk (suc n) d a a0 left s l h p =
        p a s (omega arith) ∙ part_step n d (chain_walk n d) a a0 left s (part s) (shorter s) l h p ∙ ap (λ q. follow q (λ x r. end d (sizes_from vars d x a0) r)) (sym (is left s))

  -- ---- a factor
  leaf_walk : (d : ℕ) (a : Sizes) (w : Word) (t : List ℕ) → goes (leaf_act vars d a (leaf w (from_mark t))) (λ m d a. word_question vars m d a t) ≡ follow (leaf w (from_mark t)) (λ x r. at_shut d (sizes_from vars d x a) r)
  unfolding goes leaf_act follow sizes_from
  leaf_walk d a Missing t = refl
  leaf_walk d a (Number z) t = walk_inside d _ t
  leaf_walk d a (Variable v) t = walk_inside d _ t
  leaf_walk d a (Compares c) t = refl
  leaf_walk d a (Keyword n) t = refl
  leaf_walk d a Other t = refl

  group_walk : (d : ℕ) (a : Sizes) (p : Parsed) → follow p (λ x r. closing (suc d) (sizes_from vars (suc d) x a) r) ≡ follow (then_parse p close) (λ x r. at_shut d (sizes_from vars d x a) r)
  unfolding follow then_parse
  group_walk d a shapeless = refl
  group_walk d a (parsed x []) = unfold closing finished close in refl
  group_walk d a (parsed x (b ∷ r)) = unfold closing close in by (eqb b 41)
    where
      by : (t : Bool) → cond t (close_to (suc d) (sizes_from vars (suc d) x a) r) 3 ≡ follow (cond t (parsed (group x) r) shapeless) (λ x r. at_shut d (sizes_from vars d x a) r)
      by true = unfold close_to sizes_from in refl
      by false = refl

  short_part : (s : List ℕ) → Short s (read_factor s)
  unfolding read_factor
  short_part s = short_factor _ s

  short_parts : (s : List ℕ) → Short s (read_term (λ x. x) s)
  unfolding read_term
  short_parts s = short_term _ (λ x. x) s

  after_t_is : (d : ℕ) (a : Sizes) (r : List ℕ) → after_t d a r ≡ on_from (after_term r) (λ t. at_due d (one_more a) t) (closing d a r)
  unfolding after_t
  after_t_is d a r = refl

  abbrev Factors : ℕ → Type 0
  Factors n = (d : ℕ) (a : Sizes) (s : List ℕ) → length s < n → at_due d a s ≡ follow (read_factor s) (λ x r. at_shut d (sizes_from vars d x a) r)

  whole_walk : (n : ℕ) → Factors n → (d : ℕ) (a : Sizes) (s : List ℕ) → length s < n → at_due d a s ≡ follow (read_expression (λ x. x) s) (λ x r. closing d (sizes_from vars d x a) r)
  whole_walk n f d a s l =
      chain_walk (read_term (λ x. x)) after_term read_expression expression_is after_t closing after_t_is short_parts after_term_lem n d a a (λ x. x) s l (λ x. refl)
      λ b u m. chain_walk read_factor after_factor read_term term_is at_shut after_t shut_is short_part after_factor_lem n d b b (λ x. x) u (omega arith) (λ x. refl)
      λ c v k. f d c v (omega arith)

  nil_walk : (d : ℕ) (a : Sizes) → at_due d a [] ≡ follow (read_factor []) (λ x r. at_shut d (sizes_from vars d x a) r)
  unfolding word_question end_question factor_of follow
  nil_walk d a = ap (λ q. follow q (λ x r. at_shut d (sizes_from vars d x a) r)) (sym (factor_is []))

  byte_walk : (d : ℕ) (a : Sizes) (b : ℕ) (t : List ℕ) → at_due (suc d) a t ≡ follow (read_expression (λ x. x) t) (λ x r. closing (suc d) (sizes_from vars (suc d) x a) r)
      → at_due d a (b ∷ t) ≡ follow (read_factor (b ∷ t)) (λ x r. at_shut d (sizes_from vars d x a) r)
  unfolding word_question act factor_of atom
  byte_walk d a b t h = by (eqb b 40) ∙ ap (λ q. follow q (λ x r. at_shut d (sizes_from vars d x a) r)) (sym (factor_is (b ∷ t)))
    where
      by : (q : Bool) → goes (cond q (on due (suc d) a) (leaf_act vars d a (leaf (word_of (b ∷ up_to_mark t)) (from_mark t)))) (λ m d a. word_question vars m d a t)
          ≡ follow (cond q (then_parse (read_expression (λ x. x) t) close) (leaf (word_of (b ∷ up_to_mark t)) (from_mark t))) (λ x r. at_shut d (sizes_from vars d x a) r)
      by true = unfold goes in (h ∙ group_walk d a (read_expression (λ x. x) t))
      by false = leaf_walk d a (word_of (b ∷ up_to_mark t)) t

  factor_walk : (n : ℕ) → Factors n
  factor_walk zero d a s l = absurd (omega arith)
  factor_walk (suc n) d a [] l = nil_walk d a
  factor_walk (suc n) d a (b ∷ t) l = byte_walk d a b t (whole_walk n (factor_walk n) (suc d) a t (omega arith))

  asked_last : (p : Parsed) → follow p (λ x r. closing 0 (sizes_from vars 0 x no_sizes) r) ≡ asks_expr vars (then_parse p at_end)
  unfolding follow then_parse closing finished at_end
  asked_last (parsed x []) = counted_whole vars x
  asked_last (parsed x (b ∷ r)) = by (eqb b 41)
    where
      by : (t : Bool) → cond t (close_to 0 (sizes_from vars 0 x no_sizes) r) 3 ≡ 3
      by true = unfold close_to in refl
      by false = refl
  asked_last shapeless = refl

  -- the walk from the first byte
  pub walk_asks : (w : List ℕ) → word_question vars due 0 no_sizes w ≡ asks_expr vars (parse w)
  unfolding parse
  walk_asks w = whole_walk (suc (length w)) (factor_walk (suc (length w))) 0 no_sizes w (omega arith) ∙ asked_last (read_expression (λ x. x) w)

  -- ---- a leaf as code reads it
  pub leaf_steps : (d : ℕ) (a : Sizes) (b : ℕ) (t : List ℕ) → vars ≤ 16 → (eqb b 40 ≡ false) → (q : Parsed) → q ≡ cut_in (atom (b ∷ t)) → word_question vars due d a (b ∷ t) ≡ follow q (λ x r. at_shut d (sizes_from vars d x a) r)
  unfolding word_question act atom
  leaf_steps d a b t f e q h = rw e (leaf_walk d a (word_of (b ∷ up_to_mark t)) t) ∙ sym (leaf_cut d a (word_of (b ∷ up_to_mark t)) (from_mark t)) ∙ ap (λ p. follow p (λ x r. at_shut d (sizes_from vars d x a) r)) (sym h)
    where
      leaf_cut : (d : ℕ) (a : Sizes) (w : Word) (s : List ℕ) → follow (cut_in (leaf w s)) (λ x r. at_shut d (sizes_from vars d x a) r) ≡ follow (leaf w s) (λ x r. at_shut d (sizes_from vars d x a) r)
      leaf_cut d a Missing s = unfold cut_in follow in refl
      leaf_cut d a (Number z) s = unfold cut_in follow cut_expr sizes_from noted asks_leaves in ap (λ (k : Bool). at_shut d (record { deep = max a.deep d; ops = a.ops; asks = first_refusal a.asks (cond k 0 4) }) s) (cut_limits z)
      leaf_cut d a (Variable v) s = unfold cut_in follow cut_expr sizes_from noted asks_leaves ceiling in ap (λ (k : Bool). at_shut d (record { deep = max a.deep d; ops = a.ops; asks = first_refusal a.asks (cond k 0 5) }) s) (cut_below v vars f)
      leaf_cut d a (Compares c) s = unfold cut_in follow in refl
      leaf_cut d a (Keyword n) s = unfold cut_in follow in refl
      leaf_cut d a Other s = unfold cut_in follow in refl
