-- What a node's memory means.
use Rattle.code.specs.Meaning.{Meaning}
use Rattle.register.specs.Nodes as register
use Rattle.node.specs.declared.nodes.Node.{Node}
use Rattle.node.specs.Stamped.{stamp}
use Rattle.node.specs.Shelved.{shelf}
use Rattle.node.specs.Spared.{spare}

abbrev pub node : Meaning → Node → register.Node
node m a = record { floor = stamp a.floor; shelf = shelf m a.shelf; spare = spare m a.spare }
