use Rattle.std.proofs.Common.{rules}
use Rattle.record.proofs.Printable.{trimmed_shown, trimmed_text}
use Rattle.record.proofs.fields.Name.text.Goals as goal

pub unwrap-requires : goal.unwrap-requires
unwrap-requires c = let t = trimmed_text c.args.self.now _ c.trim_ascii_end.ensures.value in search rules

pub returns : goal.returns
returns c = let t = trimmed_shown c.args.self.now _ c.trim_ascii_end.ensures.value in search rules
