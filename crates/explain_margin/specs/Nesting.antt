-- The open blocks along the rows.
use Rattle.std.specs.Prelude.{cond, ℕ, ◌+◌, ◌-◌, ltb, get_or, set}
use Rattle.table.specs.declared.Tag.{Tag}
use Rattle.table.specs.declared.Tag.TheVariants.{End, Else, Pick, Set, Move, Cue, While, Do, For, Off, Hold}
use Rattle.explain_margin.specs.declared.nest.OpenBlocks.{OpenBlocks}

-- how often what stands here is passed
abbrev pub passes_of : OpenBlocks → ℕ
passes_of n = cond (ltb n.depth 9) (get_or n.passes n.depth 0) 0

-- an else or end stands with its head
abbrev pub written_at : Tag → ℕ → ℕ
written_at End depth = depth - 1
written_at Else depth = depth - 1
written_at Pick depth = depth
written_at Set depth = depth
written_at Move depth = depth
written_at Cue depth = depth
written_at While depth = depth
written_at Do depth = depth
written_at For depth = depth
written_at Off depth = depth
written_at Hold depth = depth

-- one block more is open, at most 8, with these passes inside
abbrev pub opened_by : OpenBlocks → ℕ → OpenBlocks
opened_by n inside = cond (ltb n.depth 8) (record { depth = n.depth + 1; passes = set n.passes (n.depth + 1) inside }) n

-- the innermost is closed
abbrev pub closed_by : OpenBlocks → OpenBlocks
closed_by n = record { depth = n.depth - 1; passes = n.passes }

-- in a loop as often as its total says, in a pick as often as the pick
abbrev pub nest_after : Tag → ℕ → OpenBlocks → OpenBlocks
nest_after End total n = closed_by n
nest_after Else total n = n
nest_after Pick total n = opened_by n (passes_of n)
nest_after Set total n = n
nest_after Move total n = n
nest_after Cue total n = n
nest_after While total n = opened_by n total
nest_after Do total n = opened_by n total
nest_after For total n = opened_by n total
nest_after Off total n = n
nest_after Hold total n = opened_by n total
