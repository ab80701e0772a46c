use Rattle.slot_core.proofs.Octets.{octet_is, octets_are, same_message, words_again, words_are_message}
use Rattle.slot_core.proofs.laws.a_message_has_words_of_its_own.Goals as goal

pub returns-clause-message : goal.returns-clause-message
returns-clause-message c = λ octets time are. words_are_message octets time are

pub returns-clause-octet : goal.returns-clause-octet
returns-clause-octet c = λ octets time place are within. octet_is octets time are place within

pub returns-clause-own : goal.returns-clause-own
returns-clause-own c = same_message

pub returns-clause-again : goal.returns-clause-again
returns-clause-again c = λ words message low. (octets_are words message low, words_again words message low)
