-- What a step leaves, beside what it may find: where it stands fits the script, whatever state it was lent. Assumes nothing.
use mathlib.Core.Path.{◌≡◌, ◌∙◌, ap, subst}
use mathlib.Core.List.{List, [], ◌∷◌}
use Prim.Native.Nat.{ℕ, ◌+◌, ◌-◌}
use native.Mathlib.Omega.{arith}
use lib.ListN.{length}
use Rattle.rules.specs.declared.Ending.{Ending}
use Rattle.rules.specs.declared.Prices.{Prices}
use Rattle.rules.specs.Bounds.{FinePrices}
use Rattle.rules.specs.Blocks.{RowKind, Block, build, parts, to_end}
use Rattle.rules.specs.Run.{State}
use Rattle.rules.specs.Scripts.{All, RowBelow}
use Rattle.rules_machine.specs.RowMachine.{TurnCounts, Place, Next, more, over, picked, pairs}
use Rattle.rules_machine.proofs.PairsIn.{partners}
use Rattle.rules_live.specs.Live.{Stand, going, waits, full, finished, having, StepLent, step}
use Rattle.rules_live.specs.LiveRuns.{CanStand}
use Rattle.rules_live.proofs.Acts.{state}
use Rattle.rules_live.proofs.Comes.{paid_fits}
use Rattle.rules_live.proofs.OneStep.{reach, Walks, step_does}
use Rattle.rules_live.proofs.AnyStep.{can_proper}
use Rattle.rules_live.proofs.PlacesFit.{EndRow, NoCounts, Limited, PlaceFits, NextFits, on, off, fits_picked, next_fits}

-- a standing of a script
abbrev pub StandFits : ℕ → List RowKind → (ℕ → ℕ) → Stand → Type 0
StandFits vars rows mh (going m) = PlaceFits vars rows mh m
StandFits vars rows mh (waits m) = NoCounts vars rows mh m.tally × Limited vars rows mh m.now.store
StandFits vars rows mh (full m) = PlaceFits vars rows mh m
StandFits vars rows mh (finished e i s c) = EndRow (length rows) e i × NoCounts vars rows mh c × Limited vars rows mh s.store

module _ (π : Prices) (fine : FinePrices π) (vars : ℕ) (rows : List RowKind) (below : All (RowBelow vars) rows) (tree : Block) (whole : build 0 rows ≡ parts (to_end (length rows) tree) []) where
  abbrev matching_end_lem : ℕ → ℕ
  matching_end_lem = (pairs rows (length rows)).end

  abbrev matching_head_lem : ℕ → ℕ
  matching_head_lem = (pairs rows (length rows)).head

  abbrev Known : ℕ → List ℕ → List ℕ → (ℕ → List ℕ → Next) → Type 0
  Known t u cues a = (x : ℕ) (r : List ℕ) → NextFits vars rows matching_head_lem (a x r)

  place_of : {m : Place} → NextFits vars rows matching_head_lem (more m) → PlaceFits vars rows matching_head_lem m
  place_of (on h) = h

  over_of_lem : {e : Ending} {i : ℕ} {s : State} {c : TurnCounts} → NextFits vars rows matching_head_lem (over e i s c)
      → EndRow (length rows) e i × NoCounts vars rows matching_head_lem c × Limited vars rows matching_head_lem s.store
  over_of_lem (off a b c) = (a, b, c)

  walks : Walks π rows matching_end_lem matching_head_lem Known
  walks = record {
    equal = λ t u cues a b e h x r. subst (NextFits vars rows matching_head_lem) (e x r) (h x r);
    on = λ t u cues m h x r. next_fits π vars rows below tree whole (having m x r) (place_of (h x r));
    pays = λ t u cues p i f c k of l d h x r.
        let rest : p + x - p ≡ x = omega arith in
        subst (NextFits vars rows matching_head_lem) (paid_fits p i f (p + x) r c k (omega arith) ∙ ap (λ n. k (state f n r)) rest) (h (p + x) r);
    takes = λ t u cues i j f c b h x r. h x (b ∷ r);
  }

  known_of : (a : Stand) → StandFits vars rows matching_head_lem a → (x : ℕ) (r : List ℕ) → NextFits vars rows matching_head_lem (reach matching_end_lem a x r)
  unfolding reach
  known_of (going m) h x r = on {m = having m x r} (record { test = h.test; counts = h.counts; store = h.store })
  known_of (full m) h x r = on {m = having m x r} (record { test = h.test; counts = h.counts; store = h.store })
  known_of (waits m) (z, k) x r = fits_picked vars rows matching_head_lem m.row _ r _ m.tally z k
  known_of (finished e i s c) (a, z, k) x r = off a z k

  stand_of_lem : (a : Stand) → ((x : ℕ) (r : List ℕ) → NextFits vars rows matching_head_lem (reach matching_end_lem a x r)) → StandFits vars rows matching_head_lem a
  unfolding reach picked
  stand_of_lem (going m) h = let p = place_of (h 0 []) in record { test = p.test; counts = p.counts; store = p.store }
  stand_of_lem (full m) h = let p = place_of (h 0 []) in record { test = p.test; counts = p.counts; store = p.store }
  stand_of_lem (waits m) h = let (a, z, k) = over_of_lem (h 0 []) in (z, k)
  stand_of_lem (finished e i s c) h = over_of_lem (h 0 [])

  pub step_fits : (l : StepLent) (a : Stand) → CanStand π rows a → StandFits vars rows matching_head_lem a
      → StandFits vars rows matching_head_lem (step π rows matching_end_lem matching_head_lem l a).stand
  step_fits l a can h =
      stand_of_lem _ (step_does π rows matching_end_lem matching_head_lem fine (partners rows tree whole) Known walks {t = 0} {u = []} {cues = []} l a (known_of a h)
      (can_proper π rows matching_end_lem matching_head_lem a can)).known
