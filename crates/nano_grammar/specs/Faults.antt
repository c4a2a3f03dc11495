-- Where a text goes wrong that encodes no value: after which tokens, and why.
use Rattle.std.specs.Prelude.{◌≡◌, ℕ, List, [], ◌∷◌, ◌++◌}
use Rattle.nano_grammar.specs.Tokens.{At, Leaves}

-- no token is cut from the text
abbrev pub NothingCut : {T : Type 0} → (List ℕ → T → List ℕ → Type 0) → List ℕ → Type 0
NothingCut {T} cut text = (t : T) (rest : List ℕ) → cut text t rest → ⊥

-- these tokens, which stand for themselves
abbrev pub AreTokens : {T : Type 0} → List T → List T → Unit {0} → Type 0
AreTokens ts us value = us ≡ ts

-- no encoding of a value, with one more token after it, begins these tokens
abbrev pub NoneBegins : {T V : Type 0} → (List T → V → Type 0) → List T → Type 0
NoneBegins {T} {V} encodes ts =
    (us more : List T) (next : T) (value : V) → encodes us value → us ++ next ∷ more ≡ ts → ⊥

module _ {T : Type 0} (cut : List ℕ → T → List ℕ → Type 0) where
  -- why a text goes wrong at a pending token: that token is wrong, whatever follows it, or no token
  -- can be cut after it
  pub data Reason (here : At T) : Type 0 where
    wrong : Reason here
    uncut : NothingCut cut here.text → Reason here

  -- what may follow the pending token then
  abbrev pub MayFollow : {here : At T} → Reason here → List T → Type 0
  MayFollow wrong ts = Unit {0}
  MayFollow (uncut none) ts = ts ≡ []

  -- these tokens were taken, and no encoding of a value begins with them and the pending token,
  -- whatever may follow
  pub record Fault {V : Type 0} (encodes : List T → V → Type 0) (start here : At T)
      (reason : Reason here) : Type 0 where
    pub tokens : List T
    pub taken : Leaves cut tokens start here
    pub none : (more : List T) → MayFollow reason more
        → NoneBegins encodes (tokens ++ here.token ∷ more)
