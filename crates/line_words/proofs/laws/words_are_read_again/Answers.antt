use Rattle.std.proofs.Common.{arith}
use Rattle.line_words.proofs.Again.{number_again, bytes_again, number_word, bytes_word, address_word, ends}
use Rattle.line_words.proofs.laws.words_are_read_again.Goals as goal

pub returns-clause-numbers : goal.returns-clause-numbers
returns-clause-numbers c = λ n small. number_again 32 n (omega arith) small

pub returns-clause-long_numbers : goal.returns-clause-long_numbers
returns-clause-long_numbers c = λ n small. number_again 64 n small small

pub returns-clause-bytes : goal.returns-clause-bytes
returns-clause-bytes c = bytes_again

pub returns-clause-number_words : goal.returns-clause-number_words
returns-clause-number_words c = number_word

pub returns-clause-byte_words : goal.returns-clause-byte_words
returns-clause-byte_words c = bytes_word

pub returns-clause-address_words : goal.returns-clause-address_words
returns-clause-address_words c = address_word

pub returns-clause-ends : goal.returns-clause-ends
returns-clause-ends c = ends
