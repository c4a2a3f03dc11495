use Rattle.std.proofs.Common.{ap, ◌∙◌, ◌++◌, codes, string_bytes}
use Rattle.std.specs.Fmt.{decimal}
use Rattle.nano_toml.specs.Data.{view}
use Rattle.nano_toml.proofs.TableViews.{view-Array}
use Rattle.nano_show_answers.proofs.ListingLemmas.{table_count, written_truth-ascii, listed_whole}
use Rattle.nano_show_answers.proofs.ListingLemmas.{listed_longer, view-Str, view-Bool, view-Num}
use Rattle.nano_show_answers.proofs.ListingLemmas.{view-Dec, view-Nan, view-Inf, view-Date}
use Rattle.nano_show_answers.proofs.listed.append_start.Goals as goal
use Rattle.nano_show_answers.proofs.listed.append_start.Goals.{in-Str+in_ok-ser_json-in-Str}
use Rattle.nano_show_answers.proofs.listed.append_start.Goals.{in-Bool+in_ok-ser_json-in-Bool}
use Rattle.nano_show_answers.proofs.listed.append_start.Goals.{in-Num+in_ok-append_number-in-Num}
use Rattle.nano_show_answers.proofs.listed.append_start.Goals.{in-Dec+in_ok-append_named-in-Dec}
use Rattle.nano_show_answers.proofs.listed.append_start.Goals.{in-Nan+in_ok-append_signed-in-Nan}
use Rattle.nano_show_answers.proofs.listed.append_start.Goals.{in-Inf+in_ok-append_signed-in-Inf}
use Rattle.nano_show_answers.proofs.listed.append_start.Goals.{in-Date+in_ok-append_named-in-Date}
use Rattle.nano_show_answers.proofs.listed.append_start.Goals.{in-Array+in_ok-append_count-in-Array}

pub returns-clause-text : goal.returns-clause-text
returns-clause-text c =
    elim c.match-value.branch [
      | in-Str+in_ok-ser_json-in-Str w ↦
          listed_whole c.args.value.now _ (ap view w.in-Str.is ∙ view-Str w.in-Str.text) _ _
          (ap (λ s. string_bytes s.out) w.state-is ∙ w.in_ok-ser_json-in-Str.ensures.ok)
      | in-Bool+in_ok-ser_json-in-Bool w ↦
          listed_whole c.args.value.now _ (ap view w.in-Bool.is ∙ view-Bool w.in-Bool.boolean) _ _
          (ap (λ s. string_bytes s.out) w.state-is
          ∙ (w.in_ok-ser_json-in-Bool.ensures.ok
          ∙ ap (λ t. string_bytes c.args.state.now.out ++ t)
          (written_truth-ascii w.in-Bool.boolean)))
      | in-Num+in_ok-append_number-in-Num w ↦
          listed_whole c.args.value.now _ (ap view w.in-Num.is ∙ view-Num w.in-Num.number) _ _
          (ap (λ s. string_bytes s.out) w.state-is ∙ w.in_ok-append_number-in-Num.ensures)
      | in-Dec+in_ok-append_named-in-Dec w ↦
          listed_whole c.args.value.now _ (ap view w.in-Dec.is ∙ view-Dec w.in-Dec.text) _ _
          (ap (λ s. string_bytes s.out) w.state-is
          ∙ (w.in_ok-append_named-in-Dec.ensures
          ∙ ap (λ t. string_bytes c.args.state.now.out ++ (codes "dec " ++ t)) w.deref.ensures))
      | in-Nan+in_ok-append_signed-in-Nan w ↦
          listed_whole c.args.value.now _ (ap view w.in-Nan.is ∙ view-Nan w.in-Nan.minus) _ _
          (ap (λ s. string_bytes s.out) w.state-is ∙ w.in_ok-append_signed-in-Nan.ensures)
      | in-Inf+in_ok-append_signed-in-Inf w ↦
          listed_whole c.args.value.now _ (ap view w.in-Inf.is ∙ view-Inf w.in-Inf.minus) _ _
          (ap (λ s. string_bytes s.out) w.state-is ∙ w.in_ok-append_signed-in-Inf.ensures)
      | in-Date+in_ok-append_named-in-Date w ↦
          listed_whole c.args.value.now _ (ap view w.in-Date.is ∙ view-Date w.in-Date.text) _ _
          (ap (λ s. string_bytes s.out) w.state-is
          ∙ (w.in_ok-append_named-in-Date.ensures
          ∙ ap (λ t. string_bytes c.args.state.now.out ++ (codes "date " ++ t))
          w.deref-in-Date.ensures))
      | in-Array+in_ok-append_count-in-Array w ↦
          listed_whole c.args.value.now _ (ap view w.in-Array.is ∙ view-Array w.in-Array.tables) _ _
          (ap (λ s. string_bytes s.out) w.state-is
          ∙ (w.in_ok-append_count-in-Array.ensures
          ∙ ap (λ n. string_bytes c.args.state.now.out ++ (codes "tables " ++ decimal n))
          (table_count w.in-Array.tables w.len.result w.len.ensures)))
    ]

pub returns-clause-grows : goal.returns-clause-grows
returns-clause-grows c =
    elim c.match-value.branch [
      | in-Str+in_ok-ser_json-in-Str w ↦
          listed_longer c.args.value.now _ (ap view w.in-Str.is ∙ view-Str w.in-Str.text) _ _
          (ap (λ s. string_bytes s.out) w.state-is ∙ w.in_ok-ser_json-in-Str.ensures.ok)
      | in-Bool+in_ok-ser_json-in-Bool w ↦
          listed_longer c.args.value.now _ (ap view w.in-Bool.is ∙ view-Bool w.in-Bool.boolean) _ _
          (ap (λ s. string_bytes s.out) w.state-is
          ∙ (w.in_ok-ser_json-in-Bool.ensures.ok
          ∙ ap (λ t. string_bytes c.args.state.now.out ++ t)
          (written_truth-ascii w.in-Bool.boolean)))
      | in-Num+in_ok-append_number-in-Num w ↦
          listed_longer c.args.value.now _ (ap view w.in-Num.is ∙ view-Num w.in-Num.number) _ _
          (ap (λ s. string_bytes s.out) w.state-is ∙ w.in_ok-append_number-in-Num.ensures)
      | in-Dec+in_ok-append_named-in-Dec w ↦
          listed_longer c.args.value.now _ (ap view w.in-Dec.is ∙ view-Dec w.in-Dec.text) _ _
          (ap (λ s. string_bytes s.out) w.state-is
          ∙ (w.in_ok-append_named-in-Dec.ensures
          ∙ ap (λ t. string_bytes c.args.state.now.out ++ (codes "dec " ++ t)) w.deref.ensures))
      | in-Nan+in_ok-append_signed-in-Nan w ↦
          listed_longer c.args.value.now _ (ap view w.in-Nan.is ∙ view-Nan w.in-Nan.minus) _ _
          (ap (λ s. string_bytes s.out) w.state-is ∙ w.in_ok-append_signed-in-Nan.ensures)
      | in-Inf+in_ok-append_signed-in-Inf w ↦
          listed_longer c.args.value.now _ (ap view w.in-Inf.is ∙ view-Inf w.in-Inf.minus) _ _
          (ap (λ s. string_bytes s.out) w.state-is ∙ w.in_ok-append_signed-in-Inf.ensures)
      | in-Date+in_ok-append_named-in-Date w ↦
          listed_longer c.args.value.now _ (ap view w.in-Date.is ∙ view-Date w.in-Date.text) _ _
          (ap (λ s. string_bytes s.out) w.state-is
          ∙ (w.in_ok-append_named-in-Date.ensures
          ∙ ap (λ t. string_bytes c.args.state.now.out ++ (codes "date " ++ t))
          w.deref-in-Date.ensures))
      | in-Array+in_ok-append_count-in-Array w ↦
          listed_longer c.args.value.now _
          (ap view w.in-Array.is ∙ view-Array w.in-Array.tables) _ _
          (ap (λ s. string_bytes s.out) w.state-is
          ∙ (w.in_ok-append_count-in-Array.ensures
          ∙ ap (λ n. string_bytes c.args.state.now.out ++ (codes "tables " ++ decimal n))
          (table_count w.in-Array.tables w.len.result w.len.ensures)))
    ]
