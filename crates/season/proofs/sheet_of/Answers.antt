-- The sheet of the files so far is held.
use Rattle.std.proofs.Common.{◌≡◌, ℕ, ◌+◌, ◌≤◌, ◌<◌, List, [], ◌∷◌, ◌++◌, length, refl, ap, ◌∙◌, arith}
use lib.ListN.{length-replicate}
use Rattle.rules.specs.Calls.{four_ones, judged}
use Rattle.rules_season.specs.Season.{judged_all}
use Rattle.rules_season.proofs.GroupsExact.{length_end}
use Rattle.season_sheet.specs.declared.sheet.Sheet.{Sheet}
use Rattle.season_sheet.specs.Holds.{SeasonSoFar}
use Rattle.season_sheet.proofs.FilesLaws.{holds_none, judged_end, judged_count}
use Rattle.season.proofs.sheet_of.Goals as goal

-- one file more
one_more_lem : (k count : ℕ) (files : List (List ℕ)) (file : List ℕ) (sheet : Sheet) (counts firsts reports fired cues : List ℕ) → length files ≡ k → k < count
    → SeasonSoFar (judged_all files ++ (judged four_ones 1_024 file ∷ [])) sheet counts firsts reports fired cues
    → (fs : List (List ℕ)) × (length fs ≡ k + 1) × (k + 1 ≤ count) × SeasonSoFar (judged_all fs) sheet counts firsts reports fired cues
one_more_lem k count files file sheet counts firsts reports fired cues n l g =
    (files ++ (file ∷ []), length_end files file ∙ ap (λ z. z + 1) n, omega arith, rw (judged_end files file) g)

pub loop-k-init : goal.loop-k-init
unfolding judged_all
loop-k-init g c =
    ([], refl, omega arith, holds_none _ _ _ _ _ _ c.empty-sheet.ensures (length-replicate {A = ℕ} 64 0) (length-replicate {A = ℕ} 133_696 0) (length-replicate {A = ℕ} 64 0) (length-replicate {A = ℕ} 16_384 0))

pub add_file-sheet-requires : goal.add_file-sheet-requires
add_file-sheet-requires g c =
    let (files, n, l, h) = c.loop-k.invariant in
    (judged_all files, h, omega (arith, judged_count files, n, c.loop-k-test.true, c.requires.0))

pub loop-k-preserved : goal.loop-k-preserved
loop-k-preserved g c =
    let (files, n, l, h) = c.loop-k.invariant in
    one_more_lem _ _ files _ _ _ _ _ _ _ n c.loop-k-test.true (c.add_file-sheet.ensures (judged_all files) h)

pub returns : goal.returns
returns g c =
    let (files, n, l, h) = c.loop-k.invariant in
    (files, omega (arith, n, c.loop-k-test.false), h.figures)
