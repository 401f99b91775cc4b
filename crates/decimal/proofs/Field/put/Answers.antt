-- The word, then the digits: two writings, one after the other.
use Rattle.decimal.specs.Decimal.{decimal}
use Rattle.decimal.proofs.Writing.{puts_then, room_then, room_first}
use Rattle.decimal.proofs.Field.put.Goals as goal

pub copy-i-requires : goal.copy-i-requires
copy-i-requires c = room_first c.args.self.word.now (decimal c.args.v) _ _ c.requires

pub show-requires : goal.show-requires
show-requires c = room_then (decimal c.args.v) c.copy-i.ensures c.requires

pub returns : goal.returns
returns c = puts_then c.copy-i.ensures c.show.ensures c.requires
