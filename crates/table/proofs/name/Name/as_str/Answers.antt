use Rattle.std.proofs.Common.{rules}
use Rattle.table.proofs.Letters.{name_is_text}
use Rattle.table.proofs.name.Name.as_str.Goals as goal

pub unwrap-requires : goal.unwrap-requires
unwrap-requires c = search (name_is_text, c.args.self.now.rules, rules)
