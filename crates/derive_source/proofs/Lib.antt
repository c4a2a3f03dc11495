mod Cases
mod Places
mod ShownLemmas
