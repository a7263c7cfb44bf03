-- The first scripts have entered. Assumes nothing.
use mathlib.Core.Path.{◌≡◌, refl, sym, ◌∙◌, ap}
use mathlib.Core.List.{List}
use Prim.Native.Nat.{ℕ, ◌+◌, ◌<◌}
use native.Mathlib.Numerals.{add-one}
use native.Mathlib.Decide.{ℕ_discrete}
use native.Mathlib.Omega.{arith}
use lib.ListN.{length, get_or, set, length-set}
use lib.Seq.{get_or-set_same, get_or-set_other}
use Rattle.rules.specs.Verdicts.{passed as Passed, refused as Refused}
use Rattle.rules.specs.File.{file_script}
use Rattle.rules.specs.Calls.{prices_of, Priced, judged_file, judged, scratch_size}
use Rattle.rules_frames.specs.Frames.{Lent, ScriptPart, Readiness, readiness, parts_of}
use Rattle.rules_frames.proofs.Cut.{part_at, cut_length, cut_at}
use Rattle.rules_frames.proofs.FramesAsAlone.{cast_accepts}
use Rattle.calls.specs.Held.{admitted}
use Rattle.calls_lists.specs.Parts.{part_of}
use Rattle.calls_scripts.specs.declared.Places.{Places}
use Rattle.calls_scripts.specs.declared.Held.{Held}
use Rattle.calls_scripts.specs.Held.{table_lengths, Lengths, PlacesOf, PutAt, Entered, EnteredAs, no_part, nobody, HeldBy, refused_script}
use Rattle.calls_scripts.proofs.Readiness.{answer_to, cast_no, cast_yes, which_no, which_none, judged_file_lem, plays_at}
use Rattle.calls_scripts.proofs.Tables.{tables_whole, put_length, put_part, put_others}

module _ (prices : List ℕ) (l : Lent) where
  abbrev N : ℕ
  N = length l.file_lengths

  -- script j by its parts of what is lent
  abbrev Enters : ℕ → List ℕ → Entered → Type 0
  Enters j t e = EnteredAs prices (part_of l.file_lengths j l.files) (part_of l.store_lengths j l.stores) t e

  abbrev Placed : ℕ → Places → Type 0
  Placed j p = PlacesOf l.file_lengths l.store_lengths l.pick_lengths j p

  -- the first k, each in its table
  pub record Entering (k : ℕ) (tables : List ℕ) (each : List Held) : Type 0 where
    pub long : length each ≡ 8
    pub whole : length tables ≡ 8_192
    pub places : (j : ℕ) → j < k → Placed j (get_or each j nobody).places
    pub enters : (j : ℕ) → j < k → Enters j (part_of table_lengths j tables) (record { verdict = Passed; count = (get_or each j nobody).count })

  pub entering_none : (tables : List ℕ) (each : List Held) → length each ≡ 8 → length tables ≡ 8_192 → Entering 0 tables each
  entering_none tables each e w = record { long = e; whole = w; places = λ j h. absurd (omega arith); enters = λ j h. absurd (omega arith) }

  -- one more, which writes its own table
  module _ (k : ℕ) (tables tables' : List ℕ) (each : List Held) (few : k < 8) (h : Entering k tables each) (p : Places) (at : Placed k p) (e : Entered) (t : List ℕ) (put : PutAt p.table t tables tables')
      (entered : Enters k t e) (passes : e.verdict ≡ Passed) where
    abbrev now : Held
    now = record { places = p; count = e.count }

    pub entering_more : Entering (k + 1) tables' (set each k now)
    entering_more = record {
      long = length-set each k now ∙ h.long;
      whole = put_length table_lengths k p.table at.table tables tables' t few (tables_whole tables h.whole) put ∙ h.whole;
      places = λ j l. placed j l (ℕ_discrete j k);
      enters = λ j l. by j l (ℕ_discrete j k);
    }
      where
        placed : (j : ℕ) → j < k + 1 → Dec (j ≡ k) → Placed j (get_or (set each k now) j nobody).places
        placed j l (yes z) = rw (z, get_or-set_same each k now nobody (omega (arith, h.long))) at
        placed j l (no z) = rw (get_or-set_other each k j now nobody z) (h.places j (omega (arith, z)))

        by : (j : ℕ) → j < k + 1 → Dec (j ≡ k) → Enters j (part_of table_lengths j tables') (record { verdict = Passed; count = (get_or (set each k now) j nobody).count })
        by j l (yes z) =
            rw (z, get_or-set_same each k now nobody (omega (arith, h.long)), put_part table_lengths k p.table at.table tables tables' t few (tables_whole tables h.whole) put)
            (record { verdict = sym passes ∙ entered.verdict; rows = entered.rows; held = λ z. entered.held passes })
        by j l (no z) =
            rw (get_or-set_other each k j now nobody z, put_others table_lengths k p.table at.table tables tables' t few (tables_whole tables h.whole) put j (omega arith) z) (h.enters j (omega (arith, z)))

  module _ (priced : Priced prices) (lengths : Lengths l.file_lengths l.store_lengths l.pick_lengths) where
    abbrev parts : List ScriptPart
    parts = parts_of l

    count : length parts ≡ N
    count = cut_length l.file_lengths l.store_lengths l.pick_lengths l.files l.stores l.picks lengths.stores lengths.picks

    part_at_lem : (j : ℕ) → j < N → get_or parts j no_part ≡ part_at l.file_lengths l.store_lengths l.pick_lengths l.files l.stores l.picks j
    part_at_lem j h = cut_at l.file_lengths l.store_lengths l.pick_lengths l.files l.stores l.picks lengths.stores lengths.picks j h no_part

    -- its answer by the whole call's questions
    answered : (j : ℕ) → j < N → answer_to prices (get_or parts j no_part) ≡ admitted (judged_file (prices_of prices) (file_script (part_of l.file_lengths j l.files))) (part_of l.store_lengths j l.stores)
    answered j h = ap (answer_to prices) (part_at_lem j h) ∙ ap (λ x. admitted x (part_of l.store_lengths j l.stores)) (judged_file_lem prices priced (part_of l.file_lengths j l.files))

    module _ (k : ℕ) (tables : List ℕ) (each : List Held) (h : Entering k tables each) where
      pub entering_no : k < N → (t : List ℕ) (e : Entered) → Enters k t e → (q p : ℕ) → e.verdict ≡ Refused q p → readiness prices scratch_size parts ≡ Readiness.refuses q p
      entering_no inside t e entered q p refusal =
          cast_no prices parts k (omega (arith, count)) (λ j m. answered j (omega arith) ∙ sym (h.enters j m).verdict) q p (answered k inside ∙ sym entered.verdict ∙ refusal)

      pub entering_which : k < N → (t : List ℕ) (e : Entered) → Enters k t e → (q p : ℕ) → e.verdict ≡ Refused q p → k + 1 ≡ refused_script prices parts
      entering_which inside t e entered q p refusal =
          add-one k ∙ sym (which_no prices parts k (omega (arith, count)) (λ j m. answered j (omega arith) ∙ sym (h.enters j m).verdict) q p (answered k inside ∙ sym entered.verdict ∙ refusal))

      pub entering_no_one : k ≡ N → 0 ≡ refused_script prices parts
      entering_no_one all = sym (which_none prices parts (λ j m. answered j (omega (arith, count)) ∙ sym (h.enters j (omega (arith, count))).verdict))

      pub entering_all : k ≡ N → HeldBy Passed prices l tables each
      entering_all all =
          let (qs, e) = cast_yes prices parts (λ j m. answered j (omega (arith, count)) ∙ sym (h.enters j (omega (arith, count))).verdict) in (
            qs,
            e,
            λ j m.
                let a = plays_at (cast_accepts prices scratch_size parts qs e) j (omega (arith, count)) in
                record {
                  places = h.places j (omega arith);
                  held = (h.enters j (omega arith)).held refl _ (sym (judged_file_lem prices priced _) ∙ ap (λ (x : ScriptPart). judged prices scratch_size x.file) (sym (part_at_lem j m)) ∙ a.yes_13);
                },
          )
