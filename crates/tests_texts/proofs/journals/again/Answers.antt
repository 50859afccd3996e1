use Rattle.tests_texts.proofs.journals.again.Goals as goal

pub write_journal-requires : goal.write_journal-requires
write_journal-requires c i d h = (c.in_ok-journal.ensures.0.fit i d h).path
