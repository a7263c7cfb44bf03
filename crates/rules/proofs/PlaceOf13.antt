-- Change 4: the place of refusal 13 is the first `end` row over the limit, or R.
use mathlib.Core.Path.{◌≡◌, refl, sym, ◌∙◌, ap, subst}
use mathlib.Core.Logic.{◌⊎◌, inl, inr}
use mathlib.Core.Bool.{Bool, true, false, not}
use mathlib.Core.List.Memᴰ
use mathlib.Core.List.{List, [], ◌∷◌, ◌++◌, Memᴰ}
use Prim.Native.Nat.{ℕ, suc, ◌≤◌, ◌<◌}
use native.Mathlib.Omega.{arith}
use lib.Dec.{T, leb, leb→le, nleb→lt}
use lib.ListN.{length}
use Rattle.rules.specs.Blocks.{Plain, Block, done, plain, pick, loop, snoc}
use Rattle.rules.specs.Ranges.{Env, after_row, join, at_start}
use Rattle.rules.specs.Trips.{trip, inside, outside, after}
use Rattle.rules.specs.Figures.{Prices, ticks}
use Rattle.rules.specs.Questions.{Verdict, passed, refused, and_then, asked, loop_verdict, of_trip, tick_limit, loops_verdict, blocks_verdict, verdict}
use Rattle.rules.specs.Scripts.{Script, start_env, tree_of, Legal}
use Rattle.rules.specs.FirstOver.{BlockTicks, blocks, script_blocks, FirstOver, WholeOver, PlaceOf13}
use Rattle.rules.proofs.Accepted.{refused_not}
use Rattle.rules.proofs.Whole.{case}
use Rattle.rules.proofs.Building.{Laws}
use Rattle.rules.proofs.Demand3.{tree_along}
use Rattle.rules.specs.Passes.{any}

-- ---- refusals by number and place
same_refusal : (q p r s : ℕ) → refused q p ≡ refused r s → (q ≡ r) × (p ≡ s)
same_refusal q p r s e = (cc, cc)

-- a verdict that does not refuse by 13
abbrev Not13 : Verdict → Type 0
Not13 passed = Unit {0}
Not13 (refused q p) = q ≡ 13 → ⊥

not_then : (v w : Verdict) → Not13 v → Not13 w → Not13 (and_then v w)
unfolding and_then
not_then passed w h k = k
not_then (refused q p) w h k = h

not_asked : (q p : ℕ) (b : Bool) (v : Verdict) → (q ≡ 13 → ⊥) → Not13 v → Not13 (asked q p b v)
unfolding asked
not_asked q p true v h k = k
not_asked q p false v h k = h

loops_not : (b : Block) (ρ : Env) → Not13 (loops_verdict ρ b)
unfolding loops_verdict loop_verdict
loops_not done ρ = tt
loops_not (plain i p rest) ρ = loops_not rest (after_row ρ p)
loops_not (pick i e a b rest) ρ = not_then (loops_verdict ρ a) _ (loops_not a ρ) (not_then (loops_verdict ρ b) _ (loops_not b ρ) (loops_not rest _))
loops_not (loop i e form test body rest) ρ =
    not_then (of_trip i (trip form (at_start form test ρ) test body)) _
    (not_asked 19 i _ _ (λ e. omega arith) (not_asked 8 i _ _ (λ e. omega arith) (not_asked 9 i _ _ (λ e. omega arith) (not_asked 10 i _ _ (λ e. omega arith) (not_asked 11 i _ _ (λ e. omega arith) (not_asked 12 i _ _ (λ e. omega arith) tt))))))
    (not_then (loops_verdict (inside form (at_start form test ρ) test body) body) _ (loops_not body _) (loops_not rest _))

-- ---- 13 over the list of blocks
unfoldable pub listed : List BlockTicks → Verdict
listed [] = passed
listed (c ∷ cs) = asked 13 c.row (leb c.ticks tick_limit) (listed cs)

pub asked_then : (q p : ℕ) (b : Bool) (v w : Verdict) → asked q p b (and_then v w) ≡ and_then (asked q p b v) w
unfolding asked and_then
asked_then q p true v w = refl
asked_then q p false v w = refl

listed_append : (xs ys : List BlockTicks) → listed (xs ++ ys) ≡ and_then (listed xs) (listed ys)
unfolding listed and_then
listed_append [] ys = refl
listed_append (c ∷ xs) ys = ap (asked 13 c.row (leb c.ticks tick_limit)) (listed_append xs ys) ∙ asked_then 13 c.row (leb c.ticks tick_limit) (listed xs) (listed ys)

pub blocks_listed : (π : Prices) (b : Block) (ρ : Env) → blocks_verdict π ρ b ≡ listed (blocks π ρ b)
unfolding blocks_verdict blocks listed
blocks_listed π done ρ = refl
blocks_listed π (plain i p rest) ρ = blocks_listed π rest (after_row ρ p)
blocks_listed π (pick i e a b rest) ρ =
    rw (blocks_listed π a ρ, blocks_listed π b ρ, blocks_listed π rest (join (after ρ a) (after ρ b)))
    (sym (listed_append (blocks π ρ a) _ ∙ ap (and_then (listed (blocks π ρ a))) (listed_append (blocks π ρ b) _)))
blocks_listed π (loop i e form test body rest) ρ =
    let σ = at_start form test ρ in
    rw (blocks_listed π body (inside form σ test body), blocks_listed π rest (outside form σ test body)) (sym (listed_append (blocks π (inside form σ test body) body) _))

-- ---- the `end` rows are in order
abbrev pub Rising : ℕ → List BlockTicks → ℕ → Type 0
Rising i [] j = i ≤ j
Rising i (c ∷ cs) j = (i ≤ c.row) × Rising (suc c.row) cs j

rising_append : (xs ys : List BlockTicks) (i x y j : ℕ) → Rising i xs x → x ≤ y → Rising y ys j → Rising i (xs ++ ys) j
rising_append [] ys i x y j h le k = lower ys (omega arith) k
  where
    lower : (ys : List BlockTicks) → i ≤ y → Rising y ys j → Rising i ys j
    lower [] le k = omega arith
    lower (c ∷ ys) le (a, k) = (omega arith, k)
rising_append (c ∷ xs) ys i x y j (a, h) le k = (a, rising_append xs ys (suc c.row) x y j h le k)

pub rising_at : (cs : List BlockTicks) (i j : ℕ) (c : BlockTicks) → Rising i cs j → Memᴰ c cs → i ≤ c.row
rising_at [] i j c h m = absurd (Memᴰ.not-nil m)
rising_at (d ∷ cs) i j c (a, h) m = case (Memᴰ.cases_cons m) (λ e. subst (λ z. i ≤ z.row) (sym e) a) (λ n. omega (arith, rising_at cs (suc d.row) j c h n))

-- of a tree, whatever its ranges
unfoldable InOrder : ℕ → Block → ℕ → Type 0
InOrder i done j = i ≤ j
InOrder i (plain k p rest) j = InOrder i rest j
InOrder i (pick k e a b rest) j = (x : ℕ) × (y : ℕ) × InOrder i a x × (x ≤ y) × InOrder y b e × InOrder (suc e) rest j
InOrder i (loop k e form test body rest) j = InOrder i body e × InOrder (suc e) rest j

snoc_order : (b : Block) (k : ℕ) (p : Plain) (i j : ℕ) → InOrder i b j → InOrder i (snoc b k p) j
unfolding snoc InOrder
snoc_order done k p i j h = h
snoc_order (plain m q rest) k p i j h = snoc_order rest k p i j h
snoc_order (pick m e a b rest) k p i j (x, y, ha, xy, hb, hr) = (x, y, ha, xy, hb, snoc_order rest k p (suc e) j hr)
snoc_order (loop m e form test body rest) k p i j (hb, hr) = (hb, snoc_order rest k p (suc e) j hr)

order_from : (b : Block) (h i j : ℕ) → h ≤ i → InOrder i b j → InOrder h b j
unfolding InOrder
order_from done h i j le p = omega arith
order_from (plain m q rest) h i j le p = order_from rest h i j le p
order_from (pick m e a b rest) h i j le (x, y, ha, xy, hb, hr) = (x, y, order_from a h i x le ha, xy, hb, hr)
order_from (loop m e form test body rest) h i j le (hb, hr) = (order_from body h i e le hb, hr)

in_order : Laws InOrder
unfolding InOrder
in_order = record {
  empty = λ i j h. h;
  row = λ i j p b s h. order_from b i (suc i) j (omega arith) h;
  choice = λ i e x y j a b rest ha xy hb hr. (x, y, order_from a i (suc i) x (omega arith) ha, xy, hb, hr);
  looped = λ i e j form test body rest s hb hr. (order_from body i (suc i) e (omega arith) hb, hr);
  last = λ i j k b p s h. snoc_order b k p i j h;
}

-- a block's `end` row between those inside it and those after it
onward : (xs : List BlockTicks) (c : BlockTicks) (ys : List BlockTicks) (i j : ℕ) → Rising i xs c.row → Rising (suc c.row) ys j → Rising i (xs ++ (c ∷ ys)) j
onward xs c ys i j h k = rising_append xs (c ∷ ys) i c.row c.row j h (omega arith) (omega arith, k)

blocks_rise : (π : Prices) (b : Block) (ρ : Env) (i j : ℕ) → InOrder i b j → Rising i (blocks π ρ b) j
unfolding blocks InOrder
blocks_rise π done ρ i j h = h
blocks_rise π (plain k p rest) ρ i j h = blocks_rise π rest (after_row ρ p) i j h
blocks_rise π (pick k e a b rest) ρ i j (x, y, ha, xy, hb, hr) =
    rising_append (blocks π ρ a) _ i x y j (blocks_rise π a ρ i x ha) xy
    (onward (blocks π ρ b) _ (blocks π (join (after ρ a) (after ρ b)) rest) y j (blocks_rise π b ρ y e hb) (blocks_rise π rest (join (after ρ a) (after ρ b)) (suc e) j hr))
blocks_rise π (loop k e form test body rest) ρ i j (hb, hr) =
    let σ = at_start form test ρ in
    onward (blocks π (inside form σ test body) body) _ (blocks π (outside form σ test body) rest) i j (blocks_rise π body (inside form σ test body) i e hb) (blocks_rise π rest (outside form σ test body) (suc e) j hr)

-- those of a script
pub script_rises : (π : Prices) (script : Script) → Legal script → Rising 0 (script_blocks π script) (length script.rows)
script_rises π script legal = blocks_rise π (tree_of script.rows) (start_env script.ranges) 0 (length script.rows) (tree_along InOrder in_order script legal)

-- ---- the first one
first_of : (cs : List BlockTicks) (i j q p : ℕ) → Rising i cs j → listed cs ≡ refused q p → (q ≡ 13) × FirstOver cs p
unfolding listed asked
first_of [] i j q p up h = refused_not q p (sym h)
first_of (c ∷ cs) i j q p (a, up) h = by (leb c.ticks tick_limit) (leb→le c.ticks tick_limit) (nleb→lt c.ticks tick_limit) h (first_of cs (suc c.row) j q p up)
  where
    by : (b : Bool) → (T b → c.ticks ≤ tick_limit) → (T (not b) → tick_limit < c.ticks) → asked 13 c.row b (listed cs) ≡ refused q p
        → (listed cs ≡ refused q p → (q ≡ 13) × FirstOver cs p) → (q ≡ 13) × FirstOver (c ∷ cs) p
    by true f g h ih =
        let (e, w) = ih h in (
          e,
          record {
            block = w.block;
            here = Memᴰ.tail w.here;
            row = w.row;
            over = w.over;
            first = λ b m lt. case (Memᴰ.cases_cons m) (λ s. subst (λ z. z.ticks ≤ tick_limit) (sym s) (f tt)) (λ n. w.first b n lt);
          },
        )
    by false f g h ih =
        let (e, r) = same_refusal 13 c.row q p h in (
          sym e,
          record {
            block = c;
            here = Memᴰ.head refl;
            row = r;
            over = g tt;
            first = λ b m lt. absurd (case (Memᴰ.cases_cons m) (λ s. let z = ap (λ (d : BlockTicks). d.row) s in omega arith) (λ n. omega (arith, rising_at cs (suc c.row) j b up n)));
          },
        )

all_of : (cs : List BlockTicks) → listed cs ≡ passed → (b : BlockTicks) → Memᴰ b cs → b.ticks ≤ tick_limit
unfolding listed asked
all_of [] h b m = absurd (Memᴰ.not-nil m)
all_of (c ∷ cs) h b m = by (leb c.ticks tick_limit) (leb→le c.ticks tick_limit) h (λ e n. all_of cs e b n)
  where
    by : (x : Bool) → (T x → c.ticks ≤ tick_limit) → asked 13 c.row x (listed cs) ≡ passed → (listed cs ≡ passed → Memᴰ b cs → b.ticks ≤ tick_limit) → b.ticks ≤ tick_limit
    by true f h ih = case (Memᴰ.cases_cons m) (λ s. subst (λ z. z.ticks ≤ tick_limit) (sym s) (f tt)) (λ n. ih h n)
    by false f h ih = refused_not 13 c.row h

-- two first ones are one
one_first : (cs : List BlockTicks) (p r : ℕ) → FirstOver cs p → FirstOver cs r → p ≡ r
one_first cs p r a b =
    let le : p ≤ r = by p r (λ lt. let z = a.first b.block b.here (omega (arith, b.row)) in omega (arith, b.over)) in
    let ge : r ≤ p = by r p (λ lt. let z = b.first a.block a.here (omega (arith, a.row)) in omega (arith, a.over)) in
    omega arith
  where
    by : (p r : ℕ) → (r < p → ⊥) → p ≤ r
    by p r f = at (leb p r) (leb→le p r) (nleb→lt p r)
      where
        at : (x : Bool) → (T x → p ≤ r) → (T (not x) → r < p) → p ≤ r
        at true g h = g tt
        at false g h = absurd (f (h tt))

pub place_of_13 : PlaceOf13
unfolding PlaceOf13 verdict and_then asked
place_of_13 π script legal p = (
  λ h. forth (loops_verdict ρ tree) refl (listed bs) refl (subst (λ v. and_then (loops_verdict ρ tree) (and_then v last) ≡ refused 13 p) (blocks_listed π tree ρ) h),
  λ (h, c). subst (λ v. and_then (loops_verdict ρ tree) (and_then v last) ≡ refused 13 p) (sym (blocks_listed π tree ρ)) (subst (λ v. and_then v (and_then (listed bs) last) ≡ refused 13 p) (sym h) (back (listed bs) refl c)),
)
  where
    ρ : Env
    ρ = start_env script.ranges

    tree : Block
    tree = tree_of script.rows

    bs : List BlockTicks
    bs = blocks π ρ tree

    last : Verdict
    last = asked 13 (length script.rows) (leb (ticks π any ρ tree) tick_limit) passed

    up : Rising 0 bs (length script.rows)
    up = script_rises π script legal

    ending : (b : Bool) → (T (not b) → tick_limit < ticks π any ρ tree) → listed bs ≡ passed → asked 13 (length script.rows) b passed ≡ refused 13 p → FirstOver bs p ⊎ WholeOver π script p
    ending true f l h = refused_not 13 p (sym h)
    ending false f l h = inr (record { row = sym (same_refusal 13 _ 13 p h).1; within = all_of bs l; over = f tt })

    forth : (v : Verdict) → loops_verdict ρ tree ≡ v → (w : Verdict) → listed bs ≡ w → and_then v (and_then w last) ≡ refused 13 p
        → (v ≡ passed) × (FirstOver bs p ⊎ WholeOver π script p)
    forth passed e passed l h = (refl, ending (leb (ticks π any ρ tree) tick_limit) (nleb→lt (ticks π any ρ tree) tick_limit) l h)
    forth passed e (refused q r) l h = let (_, f) = first_of bs 0 _ q r up l in (refl, inl (subst (FirstOver bs) (same_refusal q r 13 p h).1 f))
    forth (refused q r) e w l h = absurd (subst Not13 e (loops_not tree ρ) (same_refusal q r 13 p h).0)

    whole : (b : Bool) → (T b → ticks π any ρ tree ≤ tick_limit) → WholeOver π script p → asked 13 (length script.rows) b passed ≡ refused 13 p
    whole true f w = absurd (omega (arith, f tt, w.over))
    whole false f w = ap (refused 13) (sym w.row)

    back : (w : Verdict) → listed bs ≡ w → FirstOver bs p ⊎ WholeOver π script p → and_then w last ≡ refused 13 p
    back passed l (inl f) = absurd (omega (arith, all_of bs l f.block f.here, f.over))
    back passed l (inr w) = whole (leb (ticks π any ρ tree) tick_limit) (leb→le (ticks π any ρ tree) tick_limit) w
    back (refused q r) l (inl f) = let (e, g) = first_of bs 0 _ q r up l in ap (λ z. refused z r) e ∙ ap (refused 13) (one_first bs r p g f)
    back (refused q r) l (inr w) = let (_, g) = first_of bs 0 _ q r up l in absurd (omega (arith, w.within g.block g.here, g.over))
