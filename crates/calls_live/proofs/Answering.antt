-- What a step answers and writes. Assumes nothing.
use mathlib.Core.Path.{◌≡◌, refl, sym, ◌∙◌, ap, subst}
use mathlib.Core.Bool.{true}
use mathlib.Core.List.{List, [], ◌∷◌, ◌++◌}
use Prim.Native.Nat.{ℕ, suc, ◌+◌, ◌-◌, ◌≤◌, min}
use native.Mathlib.Omega.{arith}
use lib.IntN.{ℤ}
use lib.ListN.{length, take, drop, replicate, length-drop, take-append-drop}
use lib.Seq.{length-take-le}
use Rattle.std.specs.Prelude.{Ok}
use Rattle.rules.specs.Answers.{store_list}
use Rattle.rules.specs.Blocks.{is_pick, view_at}
use Rattle.rules.specs.Calls.{loop_rows, over}
use Rattle.rules.specs.Scripts.{Script, report_lines}
use Rattle.rules.proofs.Laws.{list_of_store}
use Rattle.rules_machine.specs.RowMachine.{TurnCounts, counts_of, pairs}
use Rattle.rules_live.specs.Live.{Stand, Stepped, step_of, counts_at_stand, status_number, step_answer}
use Rattle.rules_live.specs.LiveState.{at, tally_in, row_fits, phase_fits, state_stand, place_row, phase_at, carried_at, loop_numbers, state_numbers}
use Rattle.rules_live.specs.LiveCalls.{after_step, store_stepped, state_stepped, cues_stepped}
use Rattle.table.proofs.Pairing.{heads_rise}
use Rattle.analysis_lines.specs.Coded.{first_lines}
use Rattle.run_actions.specs.declared.Machine.{Machine}
use Rattle.run_actions.specs.States.{tally_of, place_of}
use Rattle.run_machine.specs.Steps.{script_in, EndsLoop}
use Rattle.run_machine.proofs.Rows.{size_is}
use Rattle.runner.specs.declared.live.Stop.{Stop as Stopped}
use Rattle.runner.specs.Goes.{stood_by}
use Rattle.run_loops.specs.declared.Loops.{Loops}
use Rattle.run_loops.specs.Loops.{HeadCounts}
use Rattle.live_state.specs.declared.Standing.{Standing}
use Rattle.live_state.specs.Numbers.{machine_in, counts_in, AllHoldTurns, due_number, WrittenAs}
use Rattle.live_state.proofs.StateLaws.{lines_long}
use Rattle.live_state.proofs.Reading.{Fits, given_most, tally_says}
use Rattle.live_state.proofs.Passing.{StatePasses, state_passes, left_small, waits_at, test_at, at_the_end, fresh_held, waits_status, no_spent, loops_fit, counts_small, all_hold_turns}
use Rattle.calls_live.specs.declared.Paced.{Paced}
use Rattle.calls_live.specs.declared.Settled.{Settled}
use Rattle.calls_live.specs.Plays.{ready_by, stop_from, MayPlay, Played, SettledAs}
use Rattle.calls_live.specs.Told.{StepReady, step_from, SteppedAs}
use Rattle.calls_live.proofs.Stepping.{left_of_lem, unused_of, store_of_lem, counts_of_lem, row_of, StepSays, step_says}

counts_length : (c : TurnCounts) (hs : List ℕ) → length (counts_of c hs) ≡ length hs
unfolding counts_of
counts_length c [] = refl
counts_length c (h ∷ hs) = ap suc (counts_length c hs)

-- the list of cues: the first n, and those past them as they were
cues_over : (n : ℕ) (old new : List ℕ) → n ≤ length old → length new ≡ length old → drop n new ≡ drop n old → new ≡ over (take n new) old
unfolding over
cues_over n old new h l e =
    sym (take-append-drop n new) ∙ ap (λ z. take n new ++ z) (e ∙ ap (λ k. drop k old) (sym (length-take-le n new (omega arith))))

module _ {script : Script} {text t : List ℕ} {by : Paced} {table : List (List ℕ)} {store : List ℤ} {ns : List ℕ} (g : StepReady script text t by table store ns) where
  p : StatePasses by.prices script ns
  p = state_passes by.prices script ns g.passes

  abbrev heads : List ℕ
  heads = loop_rows 0 script.rows

  lines_many : length (report_lines script) ≡ by.loops
  lines_many = ap length (sym g.asked.lines) ∙ lines_long table by.loops (omega (arith, g.asked.few, g.asked.long))

  pub sixty_four : length ns ≡ 64
  sixty_four = p.size

  pub machine_asks : (length ns ≡ 64) × (at ns 3 ≤ 1_000) × (by.q ≤ 1_000_000)
  machine_asks = (p.size, left_small by.prices g.fine (at ns 0) (at ns 3) p.left, g.q)

  fits : Fits by.loops (drop 16 ns)
  fits = subst (λ n. Fits n (drop 16 ns)) lines_many (loops_fit p.loops.0 (report_lines script) (drop 16 ns) p.loops.1)

  pub counts_asks : (length ns ≡ 64) × (by.loops ≤ 16) × AllHoldTurns by.loops ns
  counts_asks = (p.size, g.asked.few, all_hold_turns by.loops ns fits)

  pub few_ticks : (at ns 4 ≤ 1_000_000_000_000) × (at ns 5 ≤ 1_000_000_000_000)
  few_ticks = (omega (arith, p.ticks, g.asked.ticks, g.few), omega (arith, p.used, p.ticks, g.asked.ticks, g.few))

  module _ (counts : List (List ℕ)) (read : (take by.loops counts ≡ counts_in by.loops (drop 16 ns)) × (length counts ≡ 16)) where
    tally : tally_of heads counts ≡ tally_in heads (drop 16 ns)
    tally = tally_says heads (drop 16 ns) counts (subst (λ n. Fits n (drop 16 ns)) (sym g.heads) fits) (subst (λ n. take n counts ≡ counts_in n (drop 16 ns)) (sym g.heads) read.0)

    counted : (x : ℕ) → ((tally_of heads counts).turns x ≤ 1_000_000_000_001) × ((tally_of heads counts).sum x ≤ 1_000_000_000_001)
    unfolding tally_in
    counted x =
        subst (λ (c : TurnCounts). (c.turns x ≤ 1_000_000_000_001) × (c.sum x ≤ 1_000_000_000_001)) (sym tally)
        (counts_small 1_000_000_000_001 p.loops.0 (report_lines script) heads (drop 16 ns) (g.heads ∙ sym lines_many) g.totals p.loops.1 x)

    pub may_play : (m : Machine) → m ≡ machine_in ns by.q → (picks : List ℕ) → MayPlay text (record { count = by.count; prices = by.prices }) t m store picks counts
    may_play m e picks = subst (λ m. MayPlay text (record { count = by.count; prices = by.prices }) t m store picks counts) (sym e) (record {
      runs = g.runs;
      price = g.fine.test.some;
      tests = λ s d.
          let (l, x) = test_at script (at ns 0) (at ns 1) (at ns 2) p.phase d in
          let (a, b) = at_the_end script (at ns 1) x in
          subst (λ rs. EndsLoop rs (at ns 1)) g.rows (record { row = l; end = a; loop = b });
      waits = λ i s.
          let (z, y) = waits_status (at ns 0) (at ns 1) i s in
          let (l, v) = waits_at script (at ns 1) (subst (λ k. row_fits script k (at ns 1) ≡ true) z p.row) in
          (y, omega (arith, ap length g.rows, size_is g.runs), subst (λ rs. view_at rs (at ns 1) ≡ is_pick) g.rows v);
      no_spent = no_spent (at ns 0) (at ns 1);
      unused = refl;
      long = read.1;
      few = omega (arith, machine_asks.1, g.q, given_most (at ns 0) by.q);
      counted = subst (λ rs. (x : ℕ) → ((tally_of (loop_rows 0 rs) counts).turns x ≤ 1_000_000_000_001) × ((tally_of (loop_rows 0 rs) counts).sum x ≤ 1_000_000_000_001)) g.rows counted;
    })

    module _ (m : Machine) (is : m ≡ machine_in ns by.q) (picks : List ℕ) (r : Stopped) (store' : List ℤ) (counts' : List (List ℕ)) (cues cues' : List ℕ)
        (played : Played by.prices (script_in text t by.count) m r store store' picks counts counts' cues cues') where
      abbrev there : Stand
      there = stood_by r.full r.machine.status r.machine store' picks (tally_of heads counts')

      abbrev s : Stepped
      s = step_of by.prices script (record { q = by.q; picks = picks; room = length cues }) (state_stand script store ns)

      done : Played by.prices script.rows m r store store' picks counts counts' cues cues'
      done = subst (λ rs. Played by.prices rs m r store store' picks counts counts' cues cues') (sym g.rows) played

      says : StepSays by.prices script picks (at ns 3) (machine_in ns by.q).left there (take r.fired cues') s
      unfolding state_stand
      says =
          step_says by.prices script by.q picks (length cues) (at ns 1) (at ns 2) (at ns 3) store (tally_in heads (drop 16 ns)) there (take r.fired cues') (at ns 0) p.status
          (λ e. fresh_held script 0 (at ns 1) (at ns 2) (subst (λ k. phase_fits script k (at ns 1) (at ns 2) ≡ true) e p.phase))
          (subst (λ (k : Machine). stop_from by.prices script.rows (length cues) (ready_by (suc ((pairs script.rows (length script.rows)).end k.row)) k.status (place_of k store picks (tally_in heads (drop 16 ns))))
          ≡ record { stand = there; cues = take r.fired cues' }) is
          (subst (λ c. stop_from by.prices script.rows (length cues) (ready_by (suc ((pairs script.rows (length script.rows)).end m.row)) m.status (place_of m store picks c))
          ≡ record { stand = there; cues = take r.fired cues' }) tally done.stop))

      ticks_are : s.ticks ≡ m.left - r.machine.left
      ticks_are = says.ticks ∙ (λ j. (sym is j).left - left_of_lem r.machine store' picks (tally_of heads counts') r.full r.machine.status j)

      used_are : length s.used ≡ r.machine.used
      used_are = says.used ∙ omega (arith, ap length (unused_of r.machine store' picks (tally_of heads counts') r.full r.machine.status), length-drop r.machine.used picks, done.used)

      fired_are : length s.cues ≡ r.fired
      fired_are = ap length says.cues_are ∙ length-take-le r.fired cues' (omega (arith, done.few, done.long))

      counts_are : counts_at_stand s.stand ≡ tally_of heads counts'
      counts_are = says.stand.counts ∙ counts_of_lem r.machine store' picks (tally_of heads counts') (at ns 3) r.full r.machine.status

      pub ticks_fit : r.machine.left ≤ m.left
      ticks_fit = done.left

      pub used_fit : r.machine.used ≤ length picks
      used_fit = done.used

      pub ticks_least : m.left ≤ 1_001_000
      ticks_least = omega (arith, ap (λ (k : Machine). k.left) is, machine_asks.1, g.q, given_most (at ns 0) by.q)

      module _ (listed : Loops) (heads-listed : HeadCounts (loop_rows 0 (script_in text t by.count)) (tally_of (loop_rows 0 (script_in text t by.count)) counts') listed) where
        told_loops : HeadCounts heads (tally_of heads counts') listed
        told_loops = subst (λ rs. HeadCounts (loop_rows 0 rs) (tally_of (loop_rows 0 rs) counts') listed) (sym g.rows) heads-listed

        pub listed_few : listed.count ≤ 16
        listed_few = omega (arith, told_loops.number, g.heads, g.asked.few)

        module _ (rest : Settled) (settled : SettledAs r.full r.machine.status r.machine (at ns 3) rest) (ns' : List ℕ) where
          abbrev standing : Standing
          standing = record { status = rest.status; row = rest.at; due = rest.due; left = rest.left; ticks = at ns 4 + (m.left - r.machine.left); used = at ns 5 + r.machine.used }

          kept : (rest.status ≡ status_number s.stand) × (rest.at ≡ place_row s.stand) × (due_number rest.due ≡ phase_at s.stand) × (rest.left ≡ carried_at s.stand)
          kept =
              let (a, b, c, d) = settled.told store' picks (tally_of heads counts') in
              let h = says.stand in
              (a ∙ sym h.status, b ∙ sym h.place, c ∙ sym h.phase, d ∙ sym h.carried)

          numbers_are : WrittenAs standing by.ticks (first_lines table listed.count) listed counts' ns'
              → ns' ≡ state_numbers by.prices script (at ns 4 + s.ticks) (at ns 5 + length s.used) s.stand
          unfolding state_numbers
          numbers_are w =
              let (a, b, c, d) = kept in
              let lines : first_lines table listed.count ≡ report_lines script = ap (first_lines table) (told_loops.number ∙ g.heads) ∙ g.asked.lines in
              w heads (λ j k. heads_rise script.rows 0 j k) told_loops
              ∙ (λ i. (a i ∷ b i ∷ c i ∷ d i ∷ min (at ns 4 + sym ticks_are i) (g.asked.ticks i) ∷ min (at ns 5 + sym used_are i) (min (at ns 4 + sym ticks_are i) (g.asked.ticks i)) ∷ replicate 10 0)
              ++ (loop_numbers (lines i) heads (sym counts_are i) ++ replicate (48 - length (loop_numbers (lines i) heads (sym counts_are i))) 0))

          pub answers : WrittenAs standing by.ticks (first_lines table listed.count) listed counts' ns' → length store' ≡ length store
              → SteppedAs (step_from script by store ns picks (length cues)) store store' ns ns' cues cues' (Ok (record {
                status = rest.status;
                row = rest.row;
                ticks = m.left - r.machine.left;
                all_ticks = at ns 4 + (m.left - r.machine.left);
                used = r.machine.used;
                all_used = at ns 5 + r.machine.used;
                cues = r.fired;
                loops = listed.count;
                counts = listed.counts;
              }))
          unfolding after_step step_answer store_stepped state_stepped cues_stepped
          answers w l = record {
            told = record {
              status = kept.0;
              row = settled.row ∙ row_of r.machine store' picks (tally_of heads counts') by.prices script (at ns 3) r.full r.machine.status done.over done.spent ∙ sym says.stand.row;
              ticks = sym ticks_are;
              all_ticks = ap (λ z. at ns 4 + z) (sym ticks_are);
              used = sym used_are;
              all_used = ap (λ z. at ns 5 + z) (sym used_are);
              cues = sym fired_are;
              loops = told_loops.number ∙ sym (counts_length (counts_at_stand s.stand) heads);
              counts = told_loops.counts ∙ ap (λ c. counts_of c heads) (sym counts_are);
              rest = told_loops.rest;
            };
            new_store = sym (list_of_store store') ∙ (λ j. store_list (l j) (sym (says.stand.store ∙ store_of_lem r.machine store' picks (tally_of heads counts') (at ns 3) r.full r.machine.status) j));
            new_state = numbers_are w;
            new_cues = cues_over r.fired cues cues' done.few done.long done.rest ∙ ap (λ z. over z cues) (sym says.cues_are);
          }
