use Rattle.message_words.proofs.objects.add_priorities.Goals as goal

-- the numbers that are written are those of the definition
pub returns : goal.returns
unfolding Rattle.message_words.specs.Objects.priority_words
returns c = rw (c.number-setup.ensures.number, c.number-hold.ensures.number) at c.write.ensures.bytes
