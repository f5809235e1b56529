-- What the answers of a round mean.
use Rattle.std.specs.Prelude.{ℕ, ◌/◌, ◌%◌, ◌^◌, Bool, cond, [], ◌==◌, slice_index_or}
use Rattle.code.specs.Meaning.{Meaning}
use Rattle.register.specs.Nodes as register
use Rattle.register.specs.Machine.{no_answers}
use Rattle.node.specs.declared.nodes.Node.{Node}
use Rattle.node.specs.declared.spares.Spare.TheVariants.{Free}
use Rattle.node.specs.Shelved.{no_stamp}
use Rattle.node.specs.Views.{node}
use Rattle.reads.specs.declared.rounds.Answers.{Answers}

-- Bit i of a byte is one.
abbrev pub bit_of : ℕ → ℕ → Bool
bit_of mask i = mask / 2 ^ i % 2 == 1

-- What is read past the end of a list of nodes.
abbrev pub past_nodes : Node
past_nodes = record {
  floor = no_stamp;
  shelf = record { count = 0; tags = []; bytes = [] };
  spare = Free;
}

-- The nodes fetched.
abbrev pub got : Answers → ℕ → Bool
got a = bit_of a.fetched

-- What node i showed last.
abbrev pub shown : Meaning → Answers → ℕ → register.Node
shown m a i = node m (slice_index_or a.nodes i past_nodes)

-- The answer of node i, if it was fetched.
abbrev pub answer : Meaning → Answers → ℕ → register.Node
answer m a i = cond (got a i) (shown m a i) (no_answers i)
