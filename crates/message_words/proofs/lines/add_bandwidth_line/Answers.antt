use Rattle.message_words.proofs.lines.add_bandwidth_line.Goals as goal

-- the numbers that are written are those of the definition
pub returns : goal.returns
returns c = rw c.value-value.ensures.value at c.write.ensures.bytes
