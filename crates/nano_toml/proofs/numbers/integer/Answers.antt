use Rattle.nano_toml.proofs.numbers.integer.Goals as goal

pub returns-in_default-clause-found : goal.returns-in_default-clause-found
returns-in_default-clause-found c = tt
