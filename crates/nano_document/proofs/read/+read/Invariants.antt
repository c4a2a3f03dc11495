use Rattle.std.proofs.Common.{◌+◌, ◌*◌}
use Rattle.nano_grammar.proofs.CollectingCalls.{Filled}
use Rattle.nano_grammar.proofs.TokensLaws.{tokens_left}
use Rattle.nano_json_tokens.specs.Token.{blocks, curlies}
use Rattle.nano_json_tokens.proofs.JsonLaws.{block_brackets, curly_brackets}
use Rattle.nano_json_tokens.specs.Outcomes.{position}
use Rattle.nano_json_tokens.specs.Scan.{is_end}
use Rattle.nano_json_tokens.specs.State.{at}
use Rattle.nano_json.proofs.Json.{json_laws}
use Rattle.nano_document.specs.DocumentCodecs.{level_codec, entry_at}
use Rattle.nano_document.proofs.Reading.{ItemsHold, EntriesHold}
use Rattle.nano_document.proofs.read.+read.Given as goal

abbrev pub decreases-read_json : goal.decreases-read_json
decreases-read_json l = 3 * l.levels

abbrev pub decreases-read_items : goal.decreases-read_items
decreases-read_items l = 3 * l.levels + 2

abbrev pub decreases-read_entry : goal.decreases-read_entry
decreases-read_entry l = 3 * l.levels + 1

abbrev pub decreases-read_entries : goal.decreases-read_entries
decreases-read_entries l = 3 * l.levels + 2

abbrev pub invariant-read_items-items : goal.invariant-read_items-items
invariant-read_items-items l =
    Filled json_laws blocks block_brackets ItemsHold (level_codec l.fn.levels).encoding.encodes (position l.fn.state l.fn.input) (position l.state l.input) l.items

abbrev pub decreases-read_items-items : goal.decreases-read_items-items
decreases-read_items-items l = tokens_left is_end (at l.state l.input)

abbrev pub invariant-read_entries-entries : goal.invariant-read_entries-entries
invariant-read_entries-entries l =
    Filled json_laws curlies curly_brackets EntriesHold (entry_at l.fn.levels).encodes (position l.fn.state l.fn.input) (position l.state l.input) l.entries

abbrev pub decreases-read_entries-entries : goal.decreases-read_entries-entries
decreases-read_entries-entries l = tokens_left is_end (at l.state l.input)
