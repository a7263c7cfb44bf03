-- From where a state stands to where it stops. Assumes nothing.
use mathlib.Core.Path.{◌≡◌, refl, sym, ◌∙◌, ap, subst}
use mathlib.Core.Bool.{Bool, true, false, cond}
use mathlib.Core.List.{List, [], ◌∷◌}
use Prim.Native.Nat.{ℕ, suc, ◌+◌, ◌*◌, ◌≤◌, ◌<◌, min}
use native.Mathlib.Nat.{mul-le-mul_right}
use native.Mathlib.Numerals.{add-one}
use native.Mathlib.Omega.{arith}
use lib.Dec.{eqb}
use lib.IntN.{ℤ}
use lib.ListN.{length, get_or, drop}
use Rattle.rules.specs.declared.Ending.{Ending}
use Rattle.rules.specs.declared.Ending.TheVariants.{Ended, Spent, NoPick}
use Rattle.rules.specs.Blocks.{RowKind}
use Rattle.rules.specs.Calls.{loop_rows}
use Rattle.rules.specs.Run.{State}
use Rattle.rules.proofs.Laws.{no_true}
use Rattle.rules_machine.specs.RowMachine.{TurnCounts, fresh, testing, Place, more, over, picked, chosen, phase_rank, rank, Opens, pairs}
use Rattle.rules_live.specs.Live.{stops_here, keeps, status_number}
use Rattle.rules_live.specs.LiveState.{place_row, phase_number, phase_at, carried_at}
use Rattle.table.specs.declared.PricedRows.{PricedRows}
use Rattle.table.specs.Code.{partner_in, numbers_at}
use Rattle.run_actions.specs.declared.Machine.{Machine}
use Rattle.run_actions.specs.declared.Status.{Status}
use Rattle.run_actions.specs.declared.Status.TheVariants.{Going, Over}
use Rattle.run_actions.specs.States.{count_in, Rising, tally_of, phase_of, state_of, place_of, by_status, next_of, is_going}
use Rattle.run_actions.proofs.Heads.{counts_at_lem}
use Rattle.table.proofs.Pairing.{heads_rise}
use Rattle.run_machine.specs.Steps.{script_in, EndsLoop}
use Rattle.run_machine.proofs.Rows.{size_is, partner_of}
use Rattle.runner.specs.Runs.{place_in, RoomToEnd, MayGo}
use Rattle.runner.specs.declared.live.Stop.{Stop as Stopped}
use Rattle.runner.specs.Goes.{stood_by, WentLive}
use Rattle.live_state.specs.Numbers.{due_number}
use Rattle.calls_live.specs.declared.Settled.{Settled}
use Rattle.calls_live.specs.Plays.{AtPick, ByteTaken, ready_by, Readied, stop_from, MayPlay, Played, SettledAs}

-- ---- the byte
pub no_byte : (m : Machine) (t picks : List ℕ) → length picks ≡ 0 → m.used ≡ 0 → ByteTaken m m t picks
unfolding picked
no_byte m t [] e u = record {
  same = λ s store c. ap (λ z. by_status z m store [] c) s;
  left = refl;
  used = omega arith;
  before = λ a b. no_true (sym a ∙ b);
}
no_byte m t (x ∷ xs) e u = absurd (omega arith)

pub one_byte : (m : Machine) (t picks : List ℕ) → (length picks ≡ 0 → ⊥) → (i : ℕ) → i ≡ cond (eqb (get_or picks 0 0) 0) (partner_in (numbers_at t m.row) + 1) (m.row + 1)
    → ByteTaken m (record { row = i; testing = false; left = m.left; used = 1; status = Going }) t picks
unfolding picked chosen
one_byte m t [] f i e = absurd (f refl)
one_byte m t (x ∷ xs) f i e = record {
  same = λ s store c. (λ j. more (at (e j) store c)) ∙ by (eqb x 0) store c;
  left = refl;
  used = omega arith;
  before = λ a b. refl;
}
  where
    at : ℕ → List ℤ → TurnCounts → Place
    at i store c = place_of (record { row = i; testing = false; left = m.left; used = 1; status = Going }) store (x ∷ xs) c

    by : (b : Bool) (store : List ℤ) (c : TurnCounts)
        → more (at (cond b (partner_in (numbers_at t m.row) + 1) (m.row + 1)) store c)
        ≡ chosen b (more (at (partner_in (numbers_at t m.row) + 1) store c)) (more (at (suc m.row) store c))
    by true store c = refl
    by false store c = ap (λ i. more (at i store c)) (add-one m.row)

-- ---- by the status
pub with_ending : {z : Status} {e f : Ending} {i : ℕ} → z ≡ Over e i → e ≡ f → z ≡ Over f i
with_ending {i = i} q e = q ∙ ap (λ x. Over x i) e

stays : (j : ℕ) (z : Status) (m : Machine) (store : List ℤ) (picks : List ℕ) (c : TurnCounts) → ((i : ℕ) → z ≡ Over NoPick i → ⊥) → by_status z m store picks c ≡ ready_by j z (place_of m store picks c)
unfolding ready_by
stays j Going m store picks c f = refl
stays j (Over NoPick i) m store picks c f = absurd (f i refl)
stays j (Over Ended i) m store picks c f = refl
stays j (Over Ending.Range i) m store picks c f = refl
stays j (Over Spent i) m store picks c f = refl

pub ready_going : (m : Machine) (t picks : List ℕ) → m.used ≡ 0 → m.status ≡ Going → Readied m m t picks
ready_going m t picks u e = record {
  same = λ f store c. stays _ m.status m store picks c (λ i q. let z : ◌≡◌ {A = ℕ} 0 1 = cc in omega arith);
  left = refl;
  used = omega arith;
  tests = λ a b. (e, b, refl);
}

pub ready_over : (m : Machine) (t picks : List ℕ) → m.used ≡ 0 → (e : Ending) (i : ℕ) → m.status ≡ Over e i → (e ≡ NoPick → ⊥) → Readied m m t picks
ready_over m t picks u e i q f = record {
  same = λ g store c. stays _ m.status m store picks c (λ j p. f (let z : Over e i ≡ Over NoPick j = sym q ∙ p in cc));
  left = refl;
  used = omega arith;
  tests = λ a b. no_true (sym (ap is_going q) ∙ a);
}

pub ready_byte : (m r : Machine) (t picks : List ℕ) → m.used ≡ 0 → (i : ℕ) → m.status ≡ Over NoPick i → ByteTaken m r t picks → Readied m r t picks
unfolding ready_by
ready_byte m r t picks u i q b = record {
  same = λ f store c.
      let e : m.status ≡ Over NoPick m.row = q ∙ ap (Over NoPick) (f i q) in
      b.same e store c ∙ (λ k. picked m.row (partner_in (numbers_at t m.row) + 1) (drop (sym u k) picks) (state_of m store picks) c)
      ∙ ap (λ z. ready_by (partner_in (numbers_at t m.row) + 1) z (place_of m store picks c)) (sym e);
  left = b.left;
  used = b.used;
  tests = λ a d. no_true (sym (b.before (ap is_going q) a) ∙ d);
}

-- ---- how it is left
due_number_lem : (b : Bool) → due_number b ≡ phase_number (phase_of b)
unfolding phase_number
due_number_lem true = refl
due_number_lem false = refl

module _ (m : Machine) (carried i : ℕ) where
  pub settled_spent : SettledAs false (Over Spent i) m carried (record { status = 0; row = i; at = m.row; due = m.testing; left = m.left })
  unfolding keeps stops_here status_number place_row phase_at carried_at
  settled_spent = record { told = λ store picks c. (refl, refl, due_number_lem m.testing, refl); row = refl }

  pub settled_waits : (x : ℕ) → x ≡ min m.left carried → SettledAs false (Over NoPick i) m carried (record { status = 1; row = i; at = i; due = false; left = x })
  unfolding keeps stops_here status_number place_row phase_at carried_at
  settled_waits x e = record { told = λ store picks c. (refl, refl, refl, e); row = refl }

  pub settled_ended : SettledAs false (Over Ended i) m carried (record { status = 3; row = i; at = i; due = false; left = 0 })
  unfolding keeps stops_here status_number place_row phase_at carried_at
  settled_ended = record { told = λ store picks c. (refl, refl, refl, refl); row = refl }

  pub settled_range : SettledAs false (Over Ending.Range i) m carried (record { status = 4; row = i; at = i; due = false; left = 0 })
  unfolding keeps stops_here status_number place_row phase_at carried_at
  settled_range = record { told = λ store picks c. (refl, refl, refl, refl); row = refl }

pub settled_full : (z : Status) (m : Machine) (carried x : ℕ) → x ≡ min m.left carried → SettledAs true z m carried (record { status = 2; row = m.row; at = m.row; due = false; left = x })
unfolding keeps status_number place_row phase_at carried_at
settled_full z m carried x e = record { told = λ store picks c. (refl, refl, refl, e); row = refl }

pub settled_going : (m : Machine) (carried : ℕ) → SettledAs false Going m carried (record { status = 0; row = m.row; at = m.row; due = m.testing; left = m.left })
unfolding keeps status_number place_row phase_at carried_at
settled_going m carried = record { told = λ store picks c. (refl, refl, due_number_lem m.testing, refl); row = refl }

pub settled_so : {full : Bool} {z w : Status} {m : Machine} {carried : ℕ} {r : Settled} → full ≡ false → z ≡ w → SettledAs false w m carried r → SettledAs full z m carried r
settled_so {full} {z} {w} {m} {carried} {r} e f h = subst (λ x. SettledAs full x m carried r) (sym f) (subst (λ b. SettledAs b w m carried r) (sym e) h)

-- ---- until it stops
-- no script is spent before it goes on
never_spent : (j : ℕ) (z : Status) (n : Place) (i : ℕ) (s : State) (c : TurnCounts) → ((k : ℕ) → z ≡ Over Spent k → ⊥) → ready_by j z n ≡ over Spent i s c → ⊥
unfolding ready_by chosen picked
never_spent j Going n i s c f e = let z : ◌≡◌ {A = ℕ} 0 1 = cc in omega arith
never_spent j (Over NoPick k) n i s c f e = by n.now.picks e
  where
    choice : (b : Bool) (x y : Place) → chosen b (more x) (more y) ≡ over Spent i s c → ⊥
    choice true x y q = let z : ◌≡◌ {A = ℕ} 0 1 = cc in omega arith
    choice false x y q = let z : ◌≡◌ {A = ℕ} 0 1 = cc in omega arith

    by : (l : List ℕ) → picked n.row j l n.now n.tally ≡ over Spent i s c → ⊥
    by [] q = let z : ◌≡◌ {A = ℕ} 0 1 = cc in omega arith
    by (x ∷ xs) q = choice (eqb x 0) _ _ q
never_spent j (Over Ended k) n i s c f e = let z : ◌≡◌ {A = ℕ} 0 1 = cc in omega arith
never_spent j (Over Ending.Range k) n i s c f e = let z : ◌≡◌ {A = ℕ} 0 1 = cc in omega arith
never_spent j (Over Spent k) n i s c f e = f k refl

-- no count outgrows 64 bits
pub room_to_end : (rows : List RowKind) (m : Place) → length rows ≤ 256 → m.now.left ≤ 1_001_000 → ((p : ℕ) → (m.tally.turns p ≤ 1_000_000_000_001) × (m.tally.sum p ≤ 1_000_000_000_001)) → RoomToEnd rows m
unfolding rank
room_to_end rows m h l f p =
    let a : m.now.left * (2 * length rows + 2) ≤ 1_001_000 * (2 * length rows + 2) = mul-le-mul_right (2 * length rows + 2) l in
    let b : phase_rank m.phase ≤ 1 = by m.phase in
    let (x, y) = f p in
    (omega arith, omega arith)
  where
    by : (ph : _) → phase_rank ph ≤ 1
    by fresh = omega arith
    by testing = omega arith

has_room : (hs : List ℕ) → Rising hs → (counts : List (List ℕ)) (k : ℕ) → k < length hs → k < length counts → ((p : ℕ) → (tally_of hs counts).sum p ≤ 1_000_000_000_001)
    → count_in counts k 1 + count_in counts k 0 ≤ 1_000_000_000_001
has_room hs r counts k h l f = subst (λ z. get_or z 1 0 + get_or z 0 0 ≤ 1_000_000_000_001) (counts_at_lem hs counts r k h l) (f (get_or hs k 0))

module _ {text : List ℕ} {script : PricedRows} {t : List ℕ} {m : Machine} {store : List ℤ} {picks : List ℕ} {counts : List (List ℕ)} (g : MayPlay text script t m store picks counts) where
  abbrev rows : List RowKind
  rows = script_in text t script.count

  pub at_pick : (i : ℕ) → m.status ≡ Over NoPick i → AtPick m t
  at_pick i e =
      let (_, l, v) = g.waits i e in
      let p = partner_of g.runs m.row l (subst Opens (sym v) tt) in
      record { row = omega (arith, g.runs.size); partner = omega (arith, p.size, g.runs.table.size) }

  module _ (r : Machine) (d : Readied m r t picks) where
    partner_is : (i : ℕ) → m.status ≡ Over NoPick i → partner_in (numbers_at t m.row) + 1 ≡ suc ((pairs rows (length rows)).end m.row)
    partner_is i e =
        let (_, l, v) = g.waits i e in
        let p = partner_of g.runs m.row l (subst Opens (sym v) tt) in
        add-one _ ∙ ap suc p.partner

    from_status : (z : Status) → m.status ≡ z → (n : Place) → ready_by (partner_in (numbers_at t m.row) + 1) z n ≡ ready_by (suc ((pairs rows (length rows)).end m.row)) z n
    unfolding ready_by
    from_status Going e n = refl
    from_status (Over NoPick i) e n = ap (λ j. picked n.row j n.now.picks n.now n.tally) (partner_is i e)
    from_status (Over Ended i) e n = refl
    from_status (Over Ending.Range i) e n = refl
    from_status (Over Spent i) e n = refl

    -- where it goes on from
    goes_from : ready_by (suc ((pairs rows (length rows)).end m.row)) m.status (place_in rows m store picks counts) ≡ next_of r store picks (tally_of (loop_rows 0 rows) counts)
    goes_from = sym (d.same (λ i e. (g.waits i e).0) store _ ∙ from_status m.status refl _)

    unspent : (i : ℕ) → r.status ≡ Over Spent i → ⊥
    unspent i e =
        never_spent _ m.status (place_in rows m store picks counts) i (state_of r store picks) (tally_of (loop_rows 0 rows) counts) g.no_spent
        (goes_from ∙ ap (λ z. by_status z r store picks (tally_of (loop_rows 0 rows) counts)) e)

    -- it is over: it waits on, or is finished
    module _ (cues : List ℕ) (done : is_going r.status ≡ false) where
      over_there : (z : Status) → r.status ≡ z → is_going z ≡ false
          → stop_from script.prices rows (length cues) (by_status z r store picks (tally_of (loop_rows 0 rows) counts))
          ≡ record { stand = stood_by false z r store picks (tally_of (loop_rows 0 rows) counts); cues = [] }
      unfolding stop_from stops_here
      over_there Going e f = no_true (sym f)
      over_there (Over Spent i) e f = absurd (unspent i e)
      over_there (Over NoPick i) e f = refl
      over_there (Over Ended i) e f = refl
      over_there (Over Ending.Range i) e f = refl

      pub stays_over : Played script.prices rows m (record { machine = r; fired = 0; full = false }) store store picks counts counts cues cues
      stays_over = record {
        stop = ap (stop_from script.prices rows (length cues)) goes_from ∙ over_there r.status refl done;
        over = λ _. done;
        spent = λ i e. absurd (unspent i e);
        few = omega arith;
        rest = refl;
        long = refl;
        left = omega (arith, d.left);
        used = d.used;
        room = record { long = g.long; turn = λ k l. omega (arith, has_room (loop_rows 0 rows) (λ a b. heads_rise rows 0 a b) counts k l (omega (arith, g.runs.table.few, g.long)) (λ p. (g.counted p).1)) };
      }

    -- it goes on
    module _ (on : is_going r.status ≡ true) where
      going_is : (z : Status) → is_going z ≡ true → z ≡ Going
      going_is Going e = refl
      going_is (Over e i) q = no_true q

      pub may_go : MayGo text script.prices t script.count r store picks counts
      may_go = record {
        script = g.runs;
        price = g.price;
        going = going_is r.status on;
        waits = λ e. let (a, b, c) = d.tests on e in subst (EndsLoop rows) (sym c) (g.tests a b);
        used = d.used;
        long = g.long;
        room = room_to_end rows (place_in rows r store picks counts) (omega (arith, size_is g.runs, g.runs.size)) (omega (arith, d.left, g.few)) g.counted;
      }

      pub goes_far : (s : Stopped) (store' : List ℤ) (counts' : List (List ℕ)) (cues cues' : List ℕ) → WentLive script.prices rows r s store store' picks counts counts' cues cues'
          → Played script.prices rows m s store store' picks counts counts' cues cues'
      unfolding stop_from
      goes_far s store' counts' cues cues' w = record {
        stop = ap (stop_from script.prices rows (length cues)) (goes_from ∙ ap (λ z. by_status z r store picks (tally_of (loop_rows 0 rows) counts)) (going_is r.status on)) ∙ w.stop;
        over = w.over;
        spent = w.spent;
        few = w.few;
        rest = w.rest;
        long = w.long;
        left = omega (arith, w.left, d.left);
        used = w.used;
        room = w.room;
      }
