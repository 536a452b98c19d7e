mod Since
