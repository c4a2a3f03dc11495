use Rattle.nano_show_answers.proofs.whole_inputs.whole_bin_line.Goals as goal

pub returns-in_ok-to_string-in_default : goal.returns-in_ok-to_string-in_default
returns-in_ok-to_string-in_default g c = λ answer h.
    c.in-Err.ensures.err c.in_default.not-Memory (g.T.Value.means h.is_normal.value)
    h.is_normal.fitting
