use Rattle.place_tokens.proofs.source.Source.draw.Given as goal

abbrev pub ghost-hand_over : goal.ghost-hand_over
ghost-hand_over g a = (a.keeper.now.me.0.next, a.token.now.me.0.own)
