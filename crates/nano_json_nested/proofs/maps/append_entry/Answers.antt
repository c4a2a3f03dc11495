use Rattle.std.proofs.Common.{rules, append_assoc}
use Rattle.std.proofs.lemmas.Str.{encodes-append}
use Rattle.nano_grammar.specs.Items.{no_gaps}
use Rattle.nano_grammar.proofs.WrittenLists.{entry_in_list}
use Rattle.nano_json_tokens.specs.Token.{curly_punctuation}
use Rattle.nano_json_nested.proofs.maps.append_entry.Goals as goal

pub returns-clause-ok : goal.returns-clause-ok
returns-clause-ok g c =
    let join = entry_in_list no_gaps curly_punctuation c.args.first in
    search (rules, append_assoc, encodes-append, join)
