use Rattle.nano_show_answers.proofs.normal.bin_line.Goals as goal

pub returns-in_ok-to_string-in_default : goal.returns-in_ok-to_string-in_default
returns-in_ok-to_string-in_default g c = λ answer h.
    c.in-Err.ensures.rejected c.in_default.not-Memory
    (g.T.Value.means h.is_normal.value) h.is_normal.fitting
