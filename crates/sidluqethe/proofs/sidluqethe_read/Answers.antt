use mathlib.Core.Path.{ap, ◌∙◌}
use Rattle.answer.specs.Answers.{refusal}
use Rattle.sidluqethe.proofs.Told.{read_accepted, read_refused, read_short, read_small}
use Rattle.sidluqethe.proofs.sidluqethe_read.Goals as goal

pub returns-then-buffer-lt-ANSWER : goal.returns-then-buffer-lt-ANSWER
returns-then-buffer-lt-ANSWER c =
    let p = read_small c.args.text.now c.args.memory.now c.args.buffer.now c.if-buffer-lt-ANSWER.true in
    record { value = p.0; written = p.1.0; filled = p.1.1 }

pub returns-in-Ok : goal.returns-in-Ok
returns-in-Ok c =
    let p = read_accepted c.args.text.now c.args.memory.now c.args.buffer.now c.read.new.memory c.if-buffer-lt-ANSWER.false c.write.result c.write.new.buffer c.write.ensures.value c.refused.result c.write.ensures.written c.in-Ok.field-0 c.in-Ok.ensures (c.refused.ensures ∙ ap refusal c.nowhere.ensures) in
    record { value = p.0; written = p.1.0; filled = p.1.1 }

pub returns-in-Err-Refused : goal.returns-in-Err-Refused
returns-in-Err-Refused c =
    let f = rw c.in-Err-Refused.field-0-is at c.in-Err-Refused.ensures in
    let p = read_refused c.args.text.now c.args.memory.now c.args.buffer.now c.read.new.memory c.if-buffer-lt-ANSWER.false c.write-in-Err-Refused.result c.write-in-Err-Refused.new.buffer c.write-in-Err-Refused.ensures.value c.refused-in-Err-Refused.result c.write-in-Err-Refused.ensures.written c.in-Err-Refused.refusal f c.refused-in-Err-Refused.ensures in
    record { value = p.0; written = p.1.0; filled = p.1.1 }

pub returns-in-Err-Short : goal.returns-in-Err-Short
returns-in-Err-Short c =
    let p = read_short c.args.text.now c.args.memory.now c.args.buffer.now c.read.new.memory c.if-buffer-lt-ANSWER.false (rw c.in-Err-Short.field-0-is at c.in-Err-Short.ensures) in
    record { value = p.0; written = p.1.0; filled = p.1.1 }
