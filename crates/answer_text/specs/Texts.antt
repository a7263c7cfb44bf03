-- What is printed of a run's answer: `ending=WORD ROW`, `ticks=`, `used=`, `store=` and the values, and a line `loop=ROW ALL MOST` for each loop.
use Rattle.std.specs.Prelude.{Result, Ok, Err, Bool, true, false, cond, List, [], ◌∷◌, ◌++◌, ℕ, ℤ, length, take}
use Rattle.rules.specs.declared.Ending.{Ending}
use Rattle.rules.specs.declared.Ending.TheVariants.{Ended, Spent, NoPick}
use Rattle.rules.specs.declared.LoopCount.{LoopCount}
use Rattle.rules.specs.Report.{decimal, sign, size, joined, loop_key, ticks_key, newline, gap}
use Rattle.rules.specs.Answers.{store_list}
use Rattle.rules.specs.Calls.{RunReply, ran, refuses}
use Rattle.rules.specs.declared.Refusal.{Refusal}
use Rattle.rules_season.specs.Season.{refusal_text}
use Rattle.calls.specs.declared.Outcome.{Outcome}

-- `ending=`
abbrev pub end_key : List ℕ
end_key = 101 ∷ 110 ∷ 100 ∷ 105 ∷ 110 ∷ 103 ∷ 61 ∷ []

-- with the word of the ending: `ended`, `spent`, `range` or `no-pick`, and a space
abbrev pub ending_key : Ending → List ℕ
ending_key Ended = end_key ++ (101 ∷ 110 ∷ 100 ∷ 101 ∷ 100 ∷ 32 ∷ [])
ending_key Spent = end_key ++ (115 ∷ 112 ∷ 101 ∷ 110 ∷ 116 ∷ 32 ∷ [])
ending_key Ending.Range = end_key ++ (114 ∷ 97 ∷ 110 ∷ 103 ∷ 101 ∷ 32 ∷ [])
ending_key NoPick = end_key ++ (110 ∷ 111 ∷ 45 ∷ 112 ∷ 105 ∷ 99 ∷ 107 ∷ 32 ∷ [])

-- `used=`
abbrev pub used_key : List ℕ
used_key = 117 ∷ 115 ∷ 101 ∷ 100 ∷ 61 ∷ []

-- `store=`
abbrev pub store_key : List ℕ
store_key = 115 ∷ 116 ∷ 111 ∷ 114 ∷ 101 ∷ 61 ∷ []

-- a value, with a space before it if it is not the first
unfoldable pub value_text : Bool → ℤ → List ℕ
value_text first v = cond first [] gap ++ (sign v ++ decimal (size v))

-- the pieces of a list, its first the first of all or not
unfoldable pub listed : {A : Type 0} → (Bool → A → List ℕ) → Bool → List A → List ℕ
listed piece first [] = []
listed piece first (v ∷ vs) = piece first v ++ listed piece false vs

-- the values of a store, one space between two
abbrev pub values_text : List ℤ → List ℕ
values_text vs = listed value_text true vs

-- a line of three numbers under a key
unfoldable pub three_text : List ℕ → ℕ → ℕ → ℕ → List ℕ
three_text key a b c = joined (key ∷ decimal a ∷ gap ∷ decimal b ∷ gap ∷ decimal c ∷ newline ∷ [])

-- `loop=ROW ALL MOST`
abbrev pub count_text : LoopCount → List ℕ
count_text c = three_text loop_key c.row c.all c.most

-- for each loop
unfoldable pub count_texts : List LoopCount → List ℕ
count_texts [] = []
count_texts (c ∷ cs) = count_text c ++ count_texts cs

-- what comes before the values
unfoldable pub front_text : Ending → ℕ → ℕ → ℕ → List ℕ
front_text ending row ticks used = joined (ending_key ending ∷ decimal row ∷ newline ∷ ticks_key ∷ decimal ticks ∷ newline ∷ used_key ∷ decimal used ∷ newline ∷ store_key ∷ [])

-- a run's answer
unfoldable pub run_text : Ending → ℕ → ℕ → ℕ → List ℤ → List LoopCount → List ℕ
run_text ending row ticks used store counts = front_text ending row ticks used ++ (values_text store ++ (newline ++ count_texts counts))

-- what a run call answers of a store, or its refusal
unfoldable pub reply_text : RunReply → List ℤ → List ℕ
reply_text (ran a counts) old = run_text a.ending a.row a.ticks a.used (store_list (length old) a.store) counts
reply_text (refuses q p) old = refusal_text q p

-- the same from an answer in code, of the store after the call
unfoldable pub outcome_text : Result Outcome Refusal → List ℤ → List ℕ
outcome_text (Ok o) store = run_text o.ending o.row o.ticks o.used store (take o.loops o.counts)
outcome_text (Err r) store = refusal_text r.number r.place
