-- A converter whose writer ran out of memory: its error stands at the beginning of the text, and says
-- nothing of it.
use Rattle.std.proofs.Common.{◌≡◌, ℕ, List, [], Result, Ok, Err, IfOk, IfErr, OnErr, IsErrAnd, true}
use Rattle.std.proofs.Common.{chars, refl, sym, subst, ◌∙◌, arith}
use Rattle.nano_grammar.specs.Outcomes.{Report, ReadsNoText}

pub no_text_of_memory : {T V : Type 0} (cut : List ℕ → T → List ℕ → Type 0) (breaks : List ℕ → List ℕ → Type 0)
    (encodes : List T → V → Type 0) (bytes : List ℕ) (e : Report) → e.memory ≡ true → e.message ≡ [] → e.line ≡ 0 → e.col ≡ 0
    → ReadsNoText cut breaks encodes bytes e
no_text_of_memory cut breaks encodes bytes e memory silent line col = record {
  fault = λ known. absurd (let x = sym memory ∙ known in cc x);
  silent = λ _. silent;
  place = record {
    taken = [];
    after = chars bytes;
    split = refl;
    lines = line;
    columns = col;
    within = omega arith;
  };
}

-- what holds of an error of the writer holds of the converter's
pub writer_rejects : {A B E F : Type 0} {M P : F → Type 0} (written : Result A E) (result : Result B F)
    (f : A → B) → IfOk written (λ value. result ≡ Ok (f value)) → OnErr written (IsErrAnd result M)
    → ((e : F) → M e → P e) → IfErr result P
writer_rejects {P = P} (Ok x) result f ok err g = subst (λ r. IfErr r P) (sym ok) tt
writer_rejects (Err d) (Ok y) f ok err g = tt
writer_rejects (Err d) (Err e) f ok err g = g e err
