use Rattle.example_server.proofs.converted.Goals as goal

pub returns-clause-converted : goal.returns-clause-converted
returns-clause-converted c = record {
  settings = c.in_ok-settings.settings;
  read = c.in_ok-settings.ensures.decodes;
  is = rw c.other.ensures at c.in_ok-write.ensures;
}
