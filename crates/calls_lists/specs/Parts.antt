-- What several scripts are lent, end to end with lists of the lengths.
use Rattle.std.specs.Prelude.{◌≡◌, List, ℕ, ◌+◌, ◌≤◌, ℤ, length, get_or, take, drop}
use Rattle.rules_frames.specs.Frames.{Lent, total}
use Rattle.calls_lists.specs.declared.Extent.{Extent}

-- as slices have it
abbrev pub lent_of : List ℕ → List ℕ → List ℤ → List ℕ → List ℕ → List ℕ → Lent
lent_of files file_lengths stores store_lengths picks pick_lengths = record {
  files = files;
  stores = stores;
  picks = picks;
  file_lengths = file_lengths;
  store_lengths = store_lengths;
  pick_lengths = pick_lengths;
}

-- the part of script k of what is lent end to end
abbrev pub part_of : {A : Type 0} → List ℕ → ℕ → List A → List A
part_of lengths k xs = take (get_or lengths k 0) (drop (total (take k lengths)) xs)

-- where it is
pub record ExtentOf (lengths : List ℕ) (k : ℕ) (s : Extent) : Type 0 where
  pub from : s.from ≡ total (take k lengths)
  pub to : s.to ≡ s.from + get_or lengths k 0

-- 20 has yes
pub record Fitted (l : Lent) (q : ℕ) : Type 0 where
  pub some : 1 ≤ length l.file_lengths
  pub few : length l.file_lengths ≤ 8
  pub stores : length l.store_lengths ≡ length l.file_lengths
  pub picks : length l.pick_lengths ≡ length l.file_lengths
  pub file_sum : total l.file_lengths ≡ length l.files
  pub store_sum : total l.store_lengths ≡ length l.stores
  pub pick_sum : total l.pick_lengths ≡ length l.picks
  pub tick : 1 ≤ q
  pub small : q ≤ 1_000_000
