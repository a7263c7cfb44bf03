-- One script in its frames: where it stands, what a frame takes, and that it has room to run on. Assumes nothing.
use mathlib.Core.Path.{◌≡◌, refl, sym, ◌∙◌, ap, subst}
use mathlib.Core.Bool.{Bool, true, false}
use borrow.Author.Tests.{leb-true, leb-false}
use mathlib.Core.List.{List}
use Prim.Native.Nat.{ℕ, zero, suc, ◌+◌, ◌-◌, ◌*◌, ◌≤◌, ◌<◌, ◌^◌}
use native.Mathlib.Nat.{add-mul, mul-le-mul, mul-le-mul_right}
use native.Mathlib.Numerals.{add-one}
use native.Mathlib.Omega.{arith}
use lib.Dec.{leb, leb→le}
use lib.IntN.{ℤ}
use lib.ListN.{length}
use Rattle.rules.specs.declared.Ending.TheVariants.{Ended, Spent, NoPick}
use Rattle.rules.specs.declared.Ending.{Ending}
use Rattle.rules.specs.declared.Prices.{Prices}
use Rattle.rules.specs.Blocks.{RowKind}
use Rattle.rules.specs.Questions.{tick_limit, verdict}
use Rattle.rules_machine.specs.RowMachine.{TurnCounts, Place, Next, more, over, pairs, rank}
use Rattle.rules.specs.Calls.{loop_rows}
use Rattle.rules.specs.Scripts.{Script, Accepted, StoreIn, report_ticks}
use Rattle.rules_frames.specs.Frames
use Rattle.rules_frames.specs.Frames.{stopped, runs_on, given, beginning, frame_from, after_frames, left_of, takes, ticks_in, due}
use Rattle.rules_frames.specs.InTime.{Done, Carries, CarriesOn, FramesAsAlone}
use Rattle.rules.proofs.Accepted.{then_yes, asked_yes}
use Rattle.rules_frames.proofs.FramesAsAlone.{due_less, settled_at, frames_as_alone}
use Rattle.run_actions.specs.declared.Machine.{Machine}
use Rattle.run_actions.specs.declared.Status.{Status}
use Rattle.run_actions.specs.declared.Status.TheVariants.{Going, Over}
use Rattle.run_actions.specs.States.{tally_of, place_of, is_going}
use Rattle.run_machine.specs.Steps.{Runnable, EndsLoop}
use Rattle.runner.specs.Runs.{place_in, RoomToEnd, MayGo, stand_by, stand_of, with_ticks, WentOn}
use Rattle.runner.proofs.Start.{runnable}
use Rattle.calls_scripts.specs.Held.{HeldAs}
use Rattle.calls_turns.specs.declared.Progress.{Progress}
use Rattle.calls_turns.specs.Progress.{is_waiting, Stands}

-- ---- where a machine stands
module _ (m : Machine) (store : List ℤ) (picks : List ℕ) (c : TurnCounts) where
  never : {A : Type 0} → true ≡ false → A
  never e = absurd (let z : ◌≡◌ {A = ℕ} 0 1 = cc in omega arith)

  stand_waits : (s : Status) → is_waiting s ≡ true → stand_by s m store picks c ≡ more (place_of m store picks c)
  unfolding stopped
  stand_waits Going e = refl
  stand_waits (Over Ended i) e = never (sym e)
  stand_waits (Over Spent i) e = refl
  stand_waits (Over Ending.Range i) e = never (sym e)
  stand_waits (Over NoPick i) e = never (sym e)

  stand_done : (s : Status) → is_waiting s ≡ false → Done (stand_by s m store picks c)
  unfolding stopped
  stand_done Going e = never e
  stand_done (Over Ended i) e = tt
  stand_done (Over Spent i) e = never e
  stand_done (Over Ending.Range i) e = tt
  stand_done (Over NoPick i) e = tt

  left_standing : (s : Status) → left_of (stand_by s m store picks c) ≡ m.left
  unfolding stopped left_of
  left_standing Going = refl
  left_standing (Over Ended i) = refl
  left_standing (Over Spent i) = refl
  left_standing (Over Ending.Range i) = refl
  left_standing (Over NoPick i) = refl

-- it waits though its run is over: it is spent
spent_is : (s : Status) → is_going s ≡ false → is_waiting s ≡ true → (i : ℕ) × (s ≡ Over Spent i)
spent_is Going e f = absurd (let z : ◌≡◌ {A = ℕ} 0 1 = cc in omega arith)
spent_is (Over Ended i) e f = absurd (let z : ◌≡◌ {A = ℕ} 0 1 = cc in omega arith)
spent_is (Over Spent i) e f = (i, refl)
spent_is (Over Ending.Range i) e f = absurd (let z : ◌≡◌ {A = ℕ} 0 1 = cc in omega arith)
spent_is (Over NoPick i) e f = absurd (let z : ◌≡◌ {A = ℕ} 0 1 = cc in omega arith)

-- ---- a frame
frame_script : (π : Prices) (q n : ℕ) (p : Frames.Progress) (a : Next) → (frame_from π q n p a).script ≡ p.script
unfolding frame_from
frame_script π q n p (more m) = refl
frame_script π q n p (over e i s c) = refl

pub after_script : (π : Prices) (q : ℕ) (p : Frames.Progress) (n : ℕ) → (after_frames π q p n).script ≡ p.script
unfolding after_frames
after_script π q p zero = refl
after_script π q p (suc n) = frame_script π q (suc n) (after_frames π q p n) (after_frames π q p n).stand ∙ after_script π q p n

frame_picks : (π : Prices) (q n : ℕ) (p : Frames.Progress) (a : Next) → (frame_from π q n p a).picks ≡ p.picks
unfolding frame_from
frame_picks π q n p (more m) = refl
frame_picks π q n p (over e i s c) = refl

pub after_picks : (π : Prices) (q : ℕ) (p : Frames.Progress) (n : ℕ) → (after_frames π q p n).picks ≡ p.picks
unfolding after_frames
after_picks π q p zero = refl
after_picks π q p (suc n) = frame_picks π q (suc n) (after_frames π q p n) (after_frames π q p n).stand ∙ after_picks π q p n

takes_none : (q : ℕ) (a b : Next) → Done a → takes q a b ≡ 0
unfolding takes
takes_none q (more m) b u = absurd u
takes_none q (over e i s c) b u = refl

-- what rows stand to
abbrev run_from : Prices → List RowKind → Place → Next
run_from π ks m = runs_on π ks (pairs ks (length ks)).end (pairs ks (length ks)).head m

module _ (π : Prices) (q : ℕ) (p : Frames.Progress) (n : ℕ) where
  frame_on : (m : Place) → (after_frames π q p n).stand ≡ more m → ((after_frames π q p (suc n)).stand ≡ run_from π p.script.rows (given q m)) × ((after_frames π q p (suc n)).frame ≡ suc n)
  unfolding after_frames frame_from
  frame_on m e = (
    ap (λ a. (frame_from π q (suc n) (after_frames π q p n) a).stand) e ∙ ap (λ (s : Script). run_from π s.rows (given q m)) (after_script π q p n),
    ap (λ a. (frame_from π q (suc n) (after_frames π q p n) a).frame) e,
  )

  module _ (x : Progress) (store : List ℤ) (picks : List ℕ) (counts : List (List ℕ)) (s : Stands π q p n x store picks counts) where
    abbrev heads : List ℕ
    heads = loop_rows 0 p.script.rows

    -- it is finished: the frame takes nothing
    module _ (w : is_waiting x.machine.status ≡ false) where
      pub is_done : Done (after_frames π q p n).stand
      is_done = subst Done (sym s.stand) (stand_done x.machine store picks (tally_of heads counts) x.machine.status w)

      pub stands_still : Stands π q p (suc n) x store picks counts
      stands_still =
          let e = settled_at π q p n (suc n) (omega arith) is_done in
          record {
            stand = ap (λ (y : Frames.Progress). y.stand) e ∙ s.stand;
            waits = s.waits;
            frame = ap (λ (y : Frames.Progress). y.frame) e ∙ s.frame;
            late = omega (arith, s.late);
            left = s.left;
            used = s.used;
            room = s.room;
          }

      pub takes_still : ticks_in π q p n ≡ 0
      takes_still = takes_none q (after_frames π q p n).stand (after_frames π q p (suc n)).stand is_done

    -- it waits: it runs on
    module _ (w : is_waiting x.machine.status ≡ true) where
      pub waits_there : (after_frames π q p n).stand ≡ more (place_in p.script.rows x.machine store picks counts)
      waits_there = s.stand ∙ stand_waits x.machine store picks (tally_of heads counts) x.machine.status w

      pub not_done : Done (after_frames π q p n).stand → ⊥
      not_done d = subst Done waits_there d

      module _ (ks : List RowKind) (rows : p.script.rows ≡ ks) (store' : List ℤ) (counts' : List (List ℕ)) (y : Progress) (ran : WentOn π ks (with_ticks q x.machine) y.machine store store' picks counts counts') where
        went : WentOn π p.script.rows (with_ticks q x.machine) y.machine store store' picks counts counts'
        went = subst (λ z. WentOn π z (with_ticks q x.machine) y.machine store store' picks counts counts') (sym rows) ran

        stands_there : (after_frames π q p (suc n)).stand ≡ stand_of y.machine store' picks (tally_of heads counts')
        stands_there = (frame_on _ waits_there).0 ∙ sym went.stand

        pub stands_on : y.frame ≡ n + 1 → Stands π q p (suc n) y store' picks counts'
        stands_on e = record {
          stand = stands_there;
          waits = λ a b. let (i, z) = spent_is y.machine.status went.over a in went.waits i z b;
          frame = (frame_on _ waits_there).1 ∙ sym (e ∙ add-one n);
          late = omega arith;
          left = omega (arith, went.left, s.left, mul-le-mul_right q s.late, add-mul n 1 q, ap (λ z. z * q) e);
          used = went.used;
          room = went.room;
        }

        pub takes_on : ticks_in π q p n ≡ x.machine.left + q - y.machine.left
        unfolding takes
        takes_on =
            (λ i. takes q (waits_there i) (stands_there i))
            ∙ ap (λ z. x.machine.left + q - z) (left_standing y.machine store' picks (tally_of heads counts') y.machine.status)

-- ---- a script that has its own questions behind it
-- question 13
ticks_few : (π : Prices) (script : Script) → Accepted π script → report_ticks π script ≤ 1_000_000_000_000
unfolding verdict tick_limit
ticks_few π script ok =
    let (_, a) = then_yes _ _ ok.loops in
    let (_, b) = then_yes _ _ a in
    let (t, _) = asked_yes 13 _ (leb (report_ticks π script) 1_000_000_000_000) _ b in
    leb→le (report_ticks π script) 1_000_000_000_000 t

module _ (π : Prices) (one : 1 ≤ π.test) (p : Frames.Progress) (ok : Accepted π p.script) (store₀ : List ℤ) (inside : StoreIn p.script store₀) (picks : List ℕ)
    (is : p ≡ beginning p.script store₀ picks) (q : ℕ) (tick : 1 ≤ q) (small : q ≤ 1_000_000) where
  -- while it is not finished, less than T ticks have been given
  pub not_due : (n : ℕ) → 1 ≤ n → (Done (after_frames π q p n).stand → ⊥) → n * q ≤ 1_000_000_000_000
  unfolding FramesAsAlone
  not_due n some_frame h = by (leb (due q T) n) refl
    where
      T : ℕ
      T = report_ticks π p.script

      by : (b : Bool) → leb (due q T) n ≡ b → n * q ≤ 1_000_000_000_000
      by true e = absurd (h (subst (λ z. Done (after_frames π q z n).stand) (sym is) ((frames_as_alone π one p.script ok store₀ inside picks q n tick).in_time (leb-true _ _ e)).finished))
      by false e = omega (arith, due_less q T n tick some_frame (leb-false _ _ e), ticks_few π p.script ok)

  module _ (n : ℕ) (few : n * q ≤ 1_000_000_000_000) (x : Progress) (store : List ℤ) (counts : List (List ℕ)) (s : Stands π q p n x store picks counts)
      (w : is_waiting x.machine.status ≡ true) where
    abbrev R : ℕ
    R = length p.script.rows

    abbrev place : Place
    place = place_in p.script.rows x.machine store picks counts

    carried : Carries π R (n * q) place
    unfolding FramesAsAlone
    carried =
        let c : CarriesOn π R (n * q) (after_frames π q p n).stand
        = subst (λ z. CarriesOn π R (n * q) (after_frames π q z n).stand) (sym is) (frames_as_alone π one p.script ok store₀ inside picks q n tick).carries in
        subst (CarriesOn π R (n * q)) (waits_there π q p n x store picks counts s w) c

    -- some ticks of allowance are good for so many steps
    roomy : (turns t : ℕ) → turns + rank R place ≤ n * q * (2 * R + 2) + (2 * R + 1) → t ≡ rank R (place_in p.script.rows (with_ticks q x.machine) store picks counts) → turns + t < 2 ^ 63
    unfolding rank
    roomy turns t c e =
        let few_rows : 2 * R + 2 ≤ 514 = omega (arith, ok.legal.sizes.1) in
        let a = mul-le-mul few few_rows in
        let b = mul-le-mul small few_rows in
        omega (arith, add-mul x.machine.left q (2 * R + 2))

    room : RoomToEnd p.script.rows (place_in p.script.rows (with_ticks q x.machine) store picks counts)
    room z = let (a, b) = carried.counts z in (roomy _ _ a refl, roomy _ _ b refl)

    pub may_run_on : length store ≡ length store₀ → (file t : List ℕ) (count : ℕ) → HeldAs file p.script count t → MayGo file π t count (with_ticks q x.machine) store picks counts
    may_run_on size file t count held = record {
      script = record {
        size = held.size;
        table = held.table;
        written = held.written;
        runs = subst (λ (z : List RowKind). Runnable (length store) z) held.rows (subst (λ z. Runnable z p.script.rows) (sym (size ∙ inside.whole)) (runnable p.script ok));
      };
      price = one;
      going = refl;
      waits = λ b. subst (λ z. EndsLoop z x.machine.row) held.rows (s.waits w b);
      used = s.used;
      long = s.room.long;
      room = subst (λ (z : List RowKind). RoomToEnd z (place_in z (with_ticks q x.machine) store picks counts)) held.rows room;
    }
