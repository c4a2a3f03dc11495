-- Written by derive_files.
use Rattle.test_nested_derived_ron.proofs.SettingCodecsLaws.{setting_legal_unset, setting_legal_text, setting_legal_counts, setting_legal_table, setting_legal_lists}
use Rattle.test_nested_derived_ron.proofs.setting.derived.SettingValue.+known.Goals as goal

pub returns-in-Unset : goal.returns-in-Unset
returns-in-Unset t c = rw c.in-Unset.is setting_legal_unset

pub returns-in-Text : goal.returns-in-Text
returns-in-Text t c = rw c.in-Text.is (setting_legal_text c.in-Text.first c.known-in-Text.ensures)

pub returns-in-Counts : goal.returns-in-Counts
returns-in-Counts t c =
    rw c.in-Counts.is (setting_legal_counts c.in-Counts.first c.known-in-Counts.ensures)

pub returns-in-Table : goal.returns-in-Table
returns-in-Table t c =
    rw c.in-Table.is (setting_legal_table c.in-Table.first c.known-in-Table.ensures)

pub returns-in-Lists : goal.returns-in-Lists
returns-in-Lists t c =
    rw c.in-Lists.is (setting_legal_lists c.in-Lists.first c.known-in-Lists.ensures)
