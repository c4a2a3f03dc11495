use Rattle.std.proofs.Common.{◌≡◌, ◌↔◌, ℕ, ◌<◌, ◌≤◌, get_or}
use Rattle.nano_toml.specs.Data.{table_view, view}
use Rattle.nano_toml.specs.declared.value.Toml.{Toml}
use Rattle.nano_toml.proofs.value.Toml.TheLaws.{the_size}
use Rattle.nano_toml.proofs.TableViews.{Agree, Present, Map}
use Rattle.nano_toml.proofs.same.+same.Given as goal

abbrev pub invariant-same_table-loop-key : goal.invariant-same_table-loop-key
invariant-same_table-loop-key l =
    (goal.iterator-same_table-loop-key).can_next l.key-iterator ×
    (goal.iterator-same_table-loop-key).is_finite l.key-iterator ×
    (Agree l.key-iterator (table_view l.b.entries) → Agree l.a.entries (table_view l.b.entries))

abbrev pub invariant-same_table-loop-key-2 : goal.invariant-same_table-loop-key-2
invariant-same_table-loop-key-2 l =
    (goal.iterator-same_table-loop-key-2).can_next l.key-iterator ×
    (goal.iterator-same_table-loop-key-2).is_finite l.key-iterator ×
    (Present l.key-iterator (table_view l.a.entries) → Present l.b.entries (table_view l.a.entries)) ×
    Agree l.a.entries (table_view l.b.entries)

abbrev pub invariant-same_tables-loop-i : goal.invariant-same_tables-loop-i
invariant-same_tables-loop-i l = (k : ℕ) (d : Map) → k < l.i → table_view (get_or l.a.items k d).entries ≡ table_view (get_or l.b.items k d).entries

abbrev pub invariant-same_values-loop-i : goal.invariant-same_values-loop-i
invariant-same_values-loop-i l = (k : ℕ) (d : Toml) → k < l.i → view (get_or l.a k d) ≡ view (get_or l.b k d)

abbrev pub invariant-same_value-lists : goal.invariant-same_value-lists
invariant-same_value-lists l = (the_size l.a ≤ the_size l.fn.one) × ((view l.a ≡ view l.b) ↔ (view l.fn.one ≡ view l.fn.other))
