-- Written by derive_files.
use Rattle.test_nested_parts.proofs.QuestCodecsLaws.{quest_legal_win, quest_legal_bring, quest_legal_all, quest_legal_find}
use Rattle.test_nested_parts.proofs.quest.derived.QuestValue.+known.Goals as goal

pub returns-in-Win : goal.returns-in-Win
returns-in-Win t c = rw c.in-Win.is (quest_legal_win c.in-Win.first c.known.ensures)

pub returns-in-Bring : goal.returns-in-Bring
returns-in-Bring t c =
    rw c.in-Bring.is (quest_legal_bring c.in-Bring.first c.in-Bring.second c.known-in-Bring.ensures c.known-in-Bring-2.ensures)

pub returns-in-All : goal.returns-in-All
returns-in-All t c =
    rw c.in-All.is (quest_legal_all c.in-All.quests c.in-All.modes c.in-All.mode c.known-in-All.ensures c.known-in-All-2.ensures c.known-in-All-3.ensures)

pub returns-in-Find : goal.returns-in-Find
returns-in-Find t c = rw c.in-Find.is (quest_legal_find c.in-Find.first c.known-in-Find.ensures)
