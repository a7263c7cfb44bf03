-- The code's way as the way of the rules, and what is asked of a loop for it.
use Rattle.std.specs.Prelude.{◌≡◌, Bool, true, false, not, cond, ◌&&◌, List, ℕ, ◌<◌, ℤ}
use Rattle.rules.specs.declared.Row.{Row}
use Rattle.rules_steps.specs.declared.Step.{Step}
use Rattle.rules_steps.specs.declared.Step.TheVariants.{Unknown}
use Rattle.rules.specs.Expressions.{variable}
use Rattle.rules.specs.declared.Comparison.{Comparison}
use Rattle.rules.specs.Blocks.{Block}
use Rattle.rules.specs.Steps.{assigns, step, is_add, moving, difference}
use Rattle.rules.specs.Values.{opposite}
use Rattle.rules.specs.Ranges.{sort, ordered, is_hold}
use Rattle.rules_steps.specs.Ends.{EndsWithin}
use Rattle.rules.specs.Trips as trips
use Rattle.rules.specs.Trips.{keeps, own, broken, copied, chase, watched, toward, way_of}
use Rattle.rules.specs.Questions.{known}
use Rattle.table.specs.Code.{kind_at}
use Rattle.analysis_steps.specs.Tree.{form_of, test_of}
use Rattle.analysis_steps.specs.Body.{AtLoop, body_at}
use Rattle.analysis_loops.specs.declared.ways.LoopTest.{LoopTest}
use Rattle.analysis_loops.specs.declared.ways.Way.{Way}
use Rattle.analysis_loops.specs.Heads.{HeadOf}

-- the way of the rules
abbrev pub way_is : Way → trips.Way
way_is Way.Own = own
way_is (Way.Copied w ahead moved) = copied w ahead
way_is (Way.Chase w apart) = chase w
way_is (Way.Watched w c k ahead moved) = watched w c k ahead
way_is Way.Broken = broken

-- the other variable is one of the 16
abbrev pub SmallWay : Way → Type 0
SmallWay Way.Own = Unit {0}
SmallWay (Way.Copied w ahead moved) = w < 16
SmallWay (Way.Chase w apart) = w < 16
SmallWay (Way.Watched w c k ahead moved) = w < 16
SmallWay Way.Broken = Unit {0}

-- and its step, or the step of the difference from v's, is that over the body
abbrev pub WayStep : ℕ → Block → Way → Type 0
WayStep v body Way.Own = Unit {0}
WayStep v body (Way.Copied w ahead moved) = (moved ≡ step w body) × EndsWithin 512 moved
WayStep v body (Way.Chase w apart) = (apart ≡ difference (step v body) (step w body)) × EndsWithin 512 apart
WayStep v body (Way.Watched w c k ahead moved) = (moved ≡ step w body) × EndsWithin 512 moved
WayStep v body Way.Broken = Unit {0}

-- the way of a loop at row i whose tested variable's only row copies w
pub record CopiedAt (text : List ℕ) (rows : List Row) (count i : ℕ) (c : Comparison) (w : ℕ) (before after : Bool) (r : Way) : Type 0 where
  pub value : let st = step w (body_at text rows count i) in way_is r ≡ cond (not (before && after) && (is_add st && (moving st && ordered (sort c)))) (copied w before) own
  pub small : SmallWay r
  pub moves : WayStep (test_of text (kind_at rows i)).tested (body_at text rows count i) r

-- the way of a hold at row i whose flag's only row is an off that compares w with k
pub record WatchedAt (text : List ℕ) (rows : List Row) (count i w : ℕ) (c : Comparison) (k : ℤ) (before after : Bool) (r : Way) : Type 0 where
  pub value : way_is r ≡ cond (not (before && after) && toward (step w (body_at text rows count i)) (sort (opposite c))) (watched w c k before) broken
  pub small : SmallWay r
  pub moves : WayStep (test_of text (kind_at rows i)).tested (body_at text rows count i) r

-- the own step of the tested variable of the loop at row i
abbrev pub own_step : List ℕ → List Row → ℕ → ℕ → Step
own_step text rows count i = step (test_of text (kind_at rows i)).tested (body_at text rows count i)

-- the way of the loop at row i
pub record WayAt (text : List ℕ) (rows : List Row) (count i : ℕ) (r : Way) : Type 0 where
  pub value : way_is r ≡ way_of (form_of text (kind_at rows i)) (test_of text (kind_at rows i)) (body_at text rows count i)
  pub small : SmallWay r
  pub moves : WayStep (test_of text (kind_at rows i)).tested (body_at text rows count i) r

-- the loop at row i is no hold
abbrev pub NoHold : List ℕ → List Row → ℕ → Type 0
NoHold text rows i = is_hold (form_of text (kind_at rows i)) ≡ false

-- the loop at row i is a hold
pub record HoldAt (text : List ℕ) (rows : List Row) (count i : ℕ) : Type 0 where
  pub loop : AtLoop text rows count i
  pub form : is_hold (form_of text (kind_at rows i)) ≡ true

-- it is no hold, and its tested variable has no step of its own
pub record SoleFrom (text : List ℕ) (rows : List Row) (count i : ℕ) : Type 0 where
  pub loop : AtLoop text rows count i
  pub form : NoHold text rows i
  pub own : own_step text rows count i ≡ Unknown

-- its limit is the variable w, which the body assigns; st: the tested variable's own step, which is known
pub record ChaseAt (text : List ℕ) (rows : List Row) (count i : ℕ) (h : LoopTest) (st : Step) (w : ℕ) : Type 0 where
  pub loop : AtLoop text rows count i
  pub form : NoHold text rows i
  pub head : HeadOf text (kind_at rows i) h
  pub own : st ≡ own_step text rows count i
  pub near : EndsWithin 256 st
  pub sure : known st ≡ true
  pub small : w < 16
  pub limit : (test_of text (kind_at rows i)).limit ≡ variable w
  pub changed : assigns w (body_at text rows count i) ≡ true

-- question 10 has no; st as before
pub record LimitAt (text : List ℕ) (rows : List Row) (count i : ℕ) (st : Step) : Type 0 where
  pub loop : AtLoop text rows count i
  pub form : NoHold text rows i
  pub own : st ≡ own_step text rows count i
  pub near : EndsWithin 256 st
  pub sure : known st ≡ true
  pub changed : keeps (test_of text (kind_at rows i)).limit (body_at text rows count i) ≡ false

-- held: it is a hold; st the tested variable's own step, kept question 10's answer
pub record WayFrom (text : List ℕ) (rows : List Row) (count i : ℕ) (held : Bool) (st : Step) (kept : Bool) : Type 0 where
  pub loop : AtLoop text rows count i
  pub form : held ≡ is_hold (form_of text (kind_at rows i))
  pub own : st ≡ own_step text rows count i
  pub near : EndsWithin 256 st
  pub limit : kept ≡ keeps (test_of text (kind_at rows i)).limit (body_at text rows count i)
