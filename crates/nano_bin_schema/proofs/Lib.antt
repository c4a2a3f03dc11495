mod ChoiceReaders
