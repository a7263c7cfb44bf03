-- One script runs on over its own parts of what is lent. Assumes nothing.
use mathlib.Core.Path.{◌≡◌, sym, ◌∙◌}
use mathlib.Core.List.{List}
use Prim.Native.Nat.{ℕ, ◌<◌}
use native.Mathlib.Omega.{arith}
use lib.IntN.{ℤ}
use lib.ListN.{length}
use Rattle.rules.specs.declared.Prices.{Prices}
use Rattle.rules_frames.specs.Frames.{Lent, total}
use Rattle.run_actions.specs.declared.Machine.{Machine}
use Rattle.run_machine.specs.Steps.{script_in}
use Rattle.runner.specs.Runs.{MayGo, WentOn}
use Rattle.calls_lists.specs.Parts.{part_of, Fitted}
use Rattle.calls_lists.proofs.Extents.{extent_part, extent_within}
use Rattle.calls_scripts.specs.declared.Held.{Held}
use Rattle.calls_scripts.specs.Held.{table_lengths, PlacesOf}
use Rattle.calls_scripts.proofs.Tables.{tables_whole, put_length, put_part, put_others}
use Rattle.calls_turns.specs.Progress.{MayTurn, Turned}

module _ (π : Prices) (l : Lent) (q : ℕ) (fits : Fitted l q) (tables : List ℕ) (eight : length tables ≡ 8_192) (stores : List ℤ) (same : length stores ≡ length l.stores) (k : ℕ)
    (inside : k < length l.file_lengths) (h : Held) (at : PlacesOf l.file_lengths l.store_lengths l.pick_lengths k h.places) (m : Machine) (counts : List (List ℕ)) where
  in_stores : k < length l.store_lengths
  in_stores = omega (arith, fits.stores)

  all_stores : total l.store_lengths ≡ length stores
  all_stores = fits.store_sum ∙ sym same

  pub may_turn : MayGo (part_of l.file_lengths k l.files) π (part_of table_lengths k tables) h.count m (part_of l.store_lengths k stores) (part_of l.pick_lengths k l.picks) counts
      → MayTurn π l.files tables stores l.picks h m counts
  may_turn x = record {
    file = extent_within _ _ _ at.file l.files inside fits.file_sum;
    table = extent_within _ _ _ at.table tables (omega (arith, fits.few)) (tables_whole tables eight);
    store = extent_within _ _ _ at.store stores in_stores all_stores;
    pick = extent_within _ _ _ at.picks l.picks (omega (arith, fits.picks)) fits.pick_sum;
    may = rw (extent_part _ _ _ at.file l.files, extent_part _ _ _ at.table tables, extent_part _ _ _ at.store stores, extent_part _ _ _ at.picks l.picks) x;
  }

  module _ (stores' : List ℤ) (r : Machine) (counts' : List (List ℕ)) (x : Turned π l.files tables stores stores' l.picks h m r counts counts') where
    pub went_on : WentOn π (script_in (part_of l.file_lengths k l.files) (part_of table_lengths k tables) h.count) m r (part_of l.store_lengths k stores) (part_of l.store_lengths k stores') (part_of l.pick_lengths k l.picks) counts counts'
    went_on =
        rw (
          put_part _ _ _ at.store stores stores' x.store in_stores all_stores x.wrote,
          sym (extent_part _ _ _ at.file l.files),
          sym (extent_part _ _ _ at.table tables),
          sym (extent_part _ _ _ at.store stores),
          sym (extent_part _ _ _ at.picks l.picks),
        )
        x.went

    pub stores_long : length stores' ≡ length stores
    stores_long = put_length _ _ _ at.store stores stores' x.store in_stores all_stores x.wrote

    pub others_keep : (j : ℕ) → j < length l.store_lengths → (j ≡ k → ⊥) → part_of l.store_lengths j stores' ≡ part_of l.store_lengths j stores
    others_keep = put_others _ _ _ at.store stores stores' x.store in_stores all_stores x.wrote
