use Rattle.message_words.proofs.lines.add_priorities.Goals as goal

-- the numbers that are written are those of the definition
pub returns : goal.returns
returns c = rw (c.number-setup.ensures.number, c.number-hold.ensures.number, c.setup-setup.ensures, c.hold-hold.ensures.value) at c.write.ensures.bytes
