-- The first word and number, what is said past them, and the newline: each fits into what the ones before it left.
use mathlib.Core.Path.{ap, ◌∙◌}
use Rattle.line.proofs.Writers.{begins, second_fits, third_fits, fourth_fits, line_put, ended}
use Rattle.line.proofs.write.put_line.Goals as goal

pub add_number-requires : goal.add_number-requires
add_number-requires c =
    let room = begins c.begin-l.result (ap (λ m. m.now) c.begin-l.ensures.begun.0) c.begin-l.ensures.begun.1 c.requires in
    second_fits _ _ _ _ room c.add_word.ensures.wrote

pub add_fields-requires : goal.add_fields-requires
add_fields-requires c =
    let room = begins c.begin-l.result (ap (λ m. m.now) c.begin-l.ensures.begun.0) c.begin-l.ensures.begun.1 c.requires in
    third_fits _ _ _ _ room c.add_word.ensures.wrote c.add_number.ensures.wrote

pub add_word-requires-2 : goal.add_word-requires-2
add_word-requires-2 c =
    let room = begins c.begin-l.result (ap (λ m. m.now) c.begin-l.ensures.begun.0) c.begin-l.ensures.begun.1 c.requires in
    fourth_fits _ _ _ _ room c.add_word.ensures.wrote c.add_number.ensures.wrote c.add_fields.ensures.wrote

-- the buffer comes back as the writer left it, since the writer held the same reference all the way
pub returns : goal.returns
returns c =
    let room = begins c.begin-l.result (ap (λ m. m.now) c.begin-l.ensures.begun.0) c.begin-l.ensures.begun.1 c.requires in
    let put = line_put _ _ _ _ room c.add_word.ensures.wrote c.add_number.ensures.wrote c.add_fields.ensures.wrote c.add_word-2.ensures.wrote in
    ended c.begin-l.result c.add_word-2.new.l (ap (λ m. m.now) c.begin-l.ensures.begun.0) c.begin-l.ensures.begun.1 put c.end.ensures.0 (c.out-1.given.1.1 (cc) ∙ c.end.ensures.1)
